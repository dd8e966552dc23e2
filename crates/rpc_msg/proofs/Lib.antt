pub mod Heads
pub mod Auth
pub mod ReplyHeads
