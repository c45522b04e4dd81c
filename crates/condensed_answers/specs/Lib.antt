pub mod Answers
pub mod Arrivals
