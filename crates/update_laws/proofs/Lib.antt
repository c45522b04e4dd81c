pub mod Faultless
pub mod Records
pub mod UpdatedSets
pub mod UpdatedZones
