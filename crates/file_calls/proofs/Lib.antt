pub mod Loads
pub mod Texts
