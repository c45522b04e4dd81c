pub mod TrimmedHashedChains
pub mod SignedHashedChains
