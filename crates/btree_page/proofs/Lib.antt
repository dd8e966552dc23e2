pub mod Built
pub mod Cells
pub mod Fields
pub mod Index
pub mod Trees
pub mod Whole
pub mod Witnessed
pub mod Runs
