pub mod Rows
pub mod Keeps
pub mod Steps
pub mod Ways
pub mod Changes
pub mod Shown
