pub mod Builder
pub mod Cells
pub mod Content
pub mod Reading
pub mod Tree
pub mod View
pub mod Witness
