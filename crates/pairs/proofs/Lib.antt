pub mod LivesLaws
pub mod RecordsLaws
pub mod VersionsLaws
