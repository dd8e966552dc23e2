pub mod Passes
pub mod Counts
