pub mod Behind
pub mod Readies
pub mod Adopted
pub mod Shown
pub mod Journal
pub mod Props
