pub mod Gains
pub mod Folding
pub mod Leaving
