pub mod Walking
pub mod Lookups
pub mod Touched
pub mod Changed
pub mod Stepping
pub mod Leading
