pub mod Commuting
pub mod Dropping
pub mod Lines
pub mod Moved
pub mod Ready
pub mod Standing
pub mod Starting
mod Fitted
mod Refusing
