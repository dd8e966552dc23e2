pub mod Lives
pub mod Versions
pub mod Told
pub mod Found
