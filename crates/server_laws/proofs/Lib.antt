pub mod OneZone
pub mod ShownRecords
pub mod ToldRecords
pub mod ReadAnswers
pub mod OptRead
pub mod OptionOctets
pub mod OptionsBack
