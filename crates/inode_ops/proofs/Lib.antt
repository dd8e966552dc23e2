pub mod Revising
pub mod Losing
pub mod Loading
