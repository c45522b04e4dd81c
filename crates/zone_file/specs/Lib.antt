pub mod Keys
pub mod Denials
pub mod Data
pub mod Faults
pub mod Records
pub mod Zones
pub mod Inputs
