pub mod Snapped
