pub mod Path
pub mod Tables
