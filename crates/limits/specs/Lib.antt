pub mod Lines
pub mod Waits
pub mod Pairs
