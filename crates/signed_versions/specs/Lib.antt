pub mod Versions
pub mod Begun
pub mod Asking
