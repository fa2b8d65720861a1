pub mod Text
pub mod Bounds
pub mod Fields
pub mod Waits
pub mod Formed
pub mod Analyzed
pub mod FormedProp
