pub mod TrimmedSets
pub mod TrimmedFound
pub mod TrimmedLists
pub mod TrimmedChain
