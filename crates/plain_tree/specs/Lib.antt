pub mod Entries
pub mod Giving
pub mod Needs
pub mod Starting
pub mod Trees
