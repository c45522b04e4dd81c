pub mod Keys
pub mod Requests
pub mod Zones
pub mod Plans
pub mod Faults
pub mod SignedChains
