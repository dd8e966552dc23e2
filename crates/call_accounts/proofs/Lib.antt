pub mod Fates
pub mod Asking
pub mod Ranges
pub mod Fixing
pub mod Merging
pub mod Accounting
pub mod Witness
