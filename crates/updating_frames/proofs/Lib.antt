pub mod Grown
pub mod Served
pub mod Answered
