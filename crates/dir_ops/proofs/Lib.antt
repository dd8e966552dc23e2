pub mod Cookies
pub mod Following
pub mod Gaining
pub mod Keeping
pub mod Leaving
pub mod Looked
pub mod Putting
