pub mod Trimming
pub mod TrimmedChains
