pub mod Digits
pub mod Security
pub mod Found
pub mod Pairs
pub mod Chunks
