pub mod Adding
pub mod Lanes
pub mod Lives
pub mod Values
pub mod Root
pub mod Showing
pub mod Alone
