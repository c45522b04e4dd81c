pub mod WordFacts
pub mod Digits
pub mod HexFacts
pub mod PartFacts
pub mod Ascii
pub mod ReadingFacts
pub mod RoundTrips
pub mod AddressTexts
pub mod PrintedWords
pub mod PrintedRecords
mod TextExamples
