pub mod Zeros
pub mod Taken
pub mod FileRows
pub mod Takes
