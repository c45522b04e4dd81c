pub mod ShownSteps
pub mod ShownVersions
pub mod Recalls
pub mod Leading
