pub mod Knowing
pub mod Assembling
pub mod Meeting
pub mod Overtaking
