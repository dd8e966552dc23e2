pub mod Adding
pub mod Copying
pub mod Counting
pub mod Losing
