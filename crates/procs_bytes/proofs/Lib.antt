pub mod Behind
pub mod Transferred
pub mod WrittenBack
pub mod SizeSet
pub mod HeldUp
