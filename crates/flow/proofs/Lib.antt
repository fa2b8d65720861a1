pub mod Statements
pub mod Walks
pub mod Counts
