pub mod EntryLaws
pub mod Handles
pub mod Lists
pub mod Bodies
pub mod Readings
pub mod Refusals
pub mod Rewritten
