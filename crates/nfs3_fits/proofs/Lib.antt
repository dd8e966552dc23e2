pub mod Structures
pub mod Contents
pub mod Listings
pub mod Sizes
pub mod Replies
pub mod Callers
