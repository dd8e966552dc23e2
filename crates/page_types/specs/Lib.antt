pub mod Accesses
pub mod Stores
pub mod Journals
pub mod Asked
pub mod Obeys
pub mod Fair
pub mod Ports
pub mod Fused
