pub mod Asking
pub mod BadCookies
pub mod Completing
pub mod ServerAnswers
pub mod Summaries
pub mod Telling
