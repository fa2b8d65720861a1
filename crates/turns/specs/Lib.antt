pub mod State
pub mod Turns
