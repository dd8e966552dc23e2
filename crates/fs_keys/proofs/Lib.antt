pub mod KeyLaws
pub mod InodeLaws
pub mod Strict
pub mod ValueLaws
pub mod Fitting
