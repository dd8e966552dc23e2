pub mod Lanes
pub mod Legal
