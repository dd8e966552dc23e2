pub mod Rising
pub mod Behind
pub mod Filling
pub mod Pages
pub mod Rows
