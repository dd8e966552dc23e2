pub mod Message
pub mod Auth
pub mod Replies
