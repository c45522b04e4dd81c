pub mod EntryLaw
pub mod Runs
