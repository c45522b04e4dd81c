pub mod Kept
pub mod Giving
pub mod KeptLaws
