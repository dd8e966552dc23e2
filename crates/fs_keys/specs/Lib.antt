pub mod Keys
pub mod Inodes
pub mod Values
