pub mod Noting
pub mod Answers
pub mod NotedLaws
pub mod Arrivals
