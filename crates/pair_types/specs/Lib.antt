pub mod MemPages
pub mod MemPagesSound
pub mod PageMaps
pub mod PageState
