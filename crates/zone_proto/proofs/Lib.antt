pub mod SetLaws
pub mod Stepped
pub mod Members
pub mod Names
pub mod Ordering
pub mod Texts
pub mod Examples
