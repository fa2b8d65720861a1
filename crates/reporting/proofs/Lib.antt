pub mod Chains
pub mod Loops
pub mod WaitLines
pub mod Lengths
pub mod Spelled
