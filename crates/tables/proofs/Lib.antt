pub mod Held
pub mod State
pub mod Building
pub mod Leaving
pub mod Counting
pub mod Determined
