pub mod Below
pub mod Changes
pub mod Edited
pub mod Edits
pub mod Made
pub mod Roots
