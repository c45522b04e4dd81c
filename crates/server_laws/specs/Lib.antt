pub mod OptionsBack
pub mod ProvedAnswers
