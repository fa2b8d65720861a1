pub mod Compare
pub mod Others
