pub mod Accesses
pub mod Laws
pub mod Outcomes
pub mod Updates
