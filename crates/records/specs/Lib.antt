pub mod Bytes
pub mod Wrong
pub mod Records
