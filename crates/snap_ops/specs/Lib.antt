pub mod Dropping
pub mod Listing
pub mod Taking
