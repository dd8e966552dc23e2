pub mod Right
pub mod First
