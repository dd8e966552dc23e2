pub mod Changes
pub mod Quads
pub mod Roots
pub mod Shows
pub mod Walks
