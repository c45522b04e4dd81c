pub mod Choosing
pub mod Messages
pub mod Versions
pub mod AnswerLaws
