pub mod Aim
pub mod Find
pub mod Found
pub mod Walk
pub mod Way
