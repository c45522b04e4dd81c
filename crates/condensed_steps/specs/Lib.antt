pub mod Condensing
pub mod CondenseLaws
