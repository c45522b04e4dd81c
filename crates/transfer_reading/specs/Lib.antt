pub mod Queries
pub mod Answers
pub mod Stages
pub mod Transfers
pub mod Differences
pub mod Outcomes
pub mod Laws
