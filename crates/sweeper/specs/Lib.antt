pub mod Rows
pub mod Keeping
pub mod Knowing
pub mod Dropping
pub mod Ending
pub mod Sweeping
