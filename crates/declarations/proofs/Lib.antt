pub mod Standing
pub mod Declaring
pub mod Looking
mod Examples
