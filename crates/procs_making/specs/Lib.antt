pub mod Rooms
pub mod Children
pub mod Plans
