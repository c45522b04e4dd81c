pub mod SignedSets
pub mod Handings
pub mod Changes
pub mod SecuredSets
pub mod KeptSets
mod SecuredExamples
