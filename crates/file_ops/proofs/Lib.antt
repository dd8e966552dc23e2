pub mod Remade
pub mod Ranged
pub mod Wrote
pub mod Resized
