pub mod Walk
pub mod Names
