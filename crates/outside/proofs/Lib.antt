pub mod Parts
pub mod Moments
pub mod ToldLaws
pub mod MomentLaws
pub mod FateLaws
pub mod Places
