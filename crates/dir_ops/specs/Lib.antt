pub mod Entries
pub mod Directories
pub mod Listing
