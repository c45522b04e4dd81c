pub mod Signs
pub mod Entries
pub mod Steps
