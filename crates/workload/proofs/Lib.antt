pub mod Moves
pub mod Clear
pub mod Making
