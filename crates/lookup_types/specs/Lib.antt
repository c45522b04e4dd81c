pub mod Errors
pub mod Hashing
