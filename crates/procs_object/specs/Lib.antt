pub mod Performing
pub mod Finding
pub mod Planning
