pub mod GivenFacts
pub mod PrepareFacts
pub mod SignFacts
pub mod VersionFacts
pub mod HeldFacts
pub mod Held
