pub mod Door
pub mod ListDoor
pub mod Tcp
