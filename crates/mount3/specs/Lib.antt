pub mod Protocol
pub mod Answering
