pub mod Rows
pub mod Work
