pub mod Seeing
pub mod Writing
pub mod Waiting
pub mod Resizing
