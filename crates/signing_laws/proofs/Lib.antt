pub mod HashedNames
pub mod HashedLists
pub mod HashedSets
pub mod TrimmedHashed
pub mod SignedHashed
