pub mod Settled
pub mod Within
pub mod Shown
pub mod Stepping
pub mod Taking
pub mod Keeping
