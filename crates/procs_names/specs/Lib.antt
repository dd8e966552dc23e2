pub mod Readying
pub mod Naming
