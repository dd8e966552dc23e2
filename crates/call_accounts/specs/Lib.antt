pub mod Asked
pub mod Calls
pub mod Accounts
pub mod Sample
