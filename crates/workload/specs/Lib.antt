pub mod Draws
pub mod Calls
pub mod Drive
pub mod Driving
pub mod Rough
pub mod Lines
