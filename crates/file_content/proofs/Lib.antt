pub mod ContentLaws
pub mod Cuts
pub mod PieceLaws
pub mod Replaced
