pub mod Machine
pub mod Tables
pub mod Sequences
pub mod Stack
pub mod Computed
pub mod Examples
pub mod Rehearsing
