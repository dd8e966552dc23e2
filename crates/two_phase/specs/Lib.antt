pub mod Tries
pub mod Endings
pub mod Parts
pub mod Commits
pub mod Once
pub mod Complete
