pub mod Blocks
pub mod Purging
pub mod Scans
pub mod Shown
