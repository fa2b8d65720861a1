pub mod Trees
pub mod Names
pub mod Walks
