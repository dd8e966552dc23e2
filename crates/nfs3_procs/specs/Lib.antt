pub mod Answering
pub mod Shaping
