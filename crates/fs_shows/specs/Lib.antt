pub mod Extents
pub mod Nodes
pub mod Shows
pub mod Steps
pub mod Views
pub mod Files
