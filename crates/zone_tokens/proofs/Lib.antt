pub mod Base32Facts
pub mod MonthFacts
pub mod NameFacts
pub mod WordTexts
pub mod ZeroGroups
