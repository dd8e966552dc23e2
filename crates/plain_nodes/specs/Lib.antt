pub mod Counts
pub mod Needs
pub mod Nodes
pub mod Starting
