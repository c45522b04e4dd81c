pub mod CallFacts
pub mod Telling
