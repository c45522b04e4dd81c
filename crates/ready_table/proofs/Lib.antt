pub mod ReadQuestions
pub mod ReadyAgain
pub mod FoundPlaces
pub mod SentQuestions
pub mod KeptPlaces
pub mod AskedZones
