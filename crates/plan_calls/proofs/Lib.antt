pub mod CallFacts
pub mod VersionFacts
pub mod Steps
