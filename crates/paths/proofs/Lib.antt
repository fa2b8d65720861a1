pub mod Tables
pub mod Walks
pub mod Unused
pub mod Build
