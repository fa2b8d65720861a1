pub mod Walking
pub mod Examining
