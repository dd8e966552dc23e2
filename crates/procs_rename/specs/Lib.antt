pub mod Moving
pub mod Seeing
pub mod Doing
