pub mod Entries
pub mod Paging
