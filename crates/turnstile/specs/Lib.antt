pub mod Growth
pub mod Passes
pub mod Views
pub mod Rules
