pub mod Rows
pub mod Causes
pub mod Since
pub mod Asking
pub mod Learning
pub mod Parts
pub mod Rechecks
pub mod RowsSound
