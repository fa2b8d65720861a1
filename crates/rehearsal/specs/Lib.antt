pub mod Items
pub mod Rehearse
pub mod Acts
pub mod Plain
pub mod Calls
pub mod Theorem
