pub mod Places
pub mod Fields
pub mod Every
pub mod Cursors
