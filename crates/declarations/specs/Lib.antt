pub mod Noted
pub mod Items
