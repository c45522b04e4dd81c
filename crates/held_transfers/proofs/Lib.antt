pub mod Answered
pub mod Granted
pub mod Held
