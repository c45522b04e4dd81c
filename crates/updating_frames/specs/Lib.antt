pub mod Journals
pub mod Turns
