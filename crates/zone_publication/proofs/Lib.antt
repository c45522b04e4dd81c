pub mod Ancestors
pub mod SameNames
