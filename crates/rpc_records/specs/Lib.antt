pub mod Reading
pub mod Fragments
pub mod Marking
pub mod Progress
pub mod Stage
pub mod Stream
