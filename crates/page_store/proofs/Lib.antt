pub mod Tids
pub mod Holding
pub mod Patching
pub mod Bounds
pub mod Rooms
pub mod Storing
pub mod Refusing
pub mod Planning
