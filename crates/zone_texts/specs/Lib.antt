pub mod FileNames
pub mod Generation
pub mod GoingOn
pub mod Inclusions
pub mod Parts
pub mod Patterns
pub mod Readings
