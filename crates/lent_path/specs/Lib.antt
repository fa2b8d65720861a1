pub mod Rows
pub mod Lent
