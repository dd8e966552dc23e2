pub mod Saving
pub mod Changes
pub mod Giving
pub mod Losing
