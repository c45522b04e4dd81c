pub mod DataFacts
pub mod InputFacts
pub mod ZoneFacts
