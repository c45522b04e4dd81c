pub mod ZoneText
pub mod ZoneDigests
pub mod DigestSets
pub mod Faults
pub mod Verifying
