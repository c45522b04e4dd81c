pub mod Whole
pub mod NotedLead
pub mod Arriving
