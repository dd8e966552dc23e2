pub mod RecordLaws
pub mod FoundLaws
pub mod MarkingLaws
pub mod ReaderLaws
pub mod StreamLaws
