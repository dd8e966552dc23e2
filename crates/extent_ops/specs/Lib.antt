pub mod Marking
pub mod Steps
pub mod Blocks
pub mod Ranges
pub mod Cuts
