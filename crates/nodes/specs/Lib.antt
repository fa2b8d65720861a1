pub mod Stands
pub mod Somewhere
pub mod Nodes
