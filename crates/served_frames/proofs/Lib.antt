pub mod Served
pub mod Stopped
