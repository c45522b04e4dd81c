pub mod Outcomes
pub mod Courses
pub mod SignedRecords
