pub mod Local
pub mod OthersStay
pub mod RenewedCircle
pub mod TrimmedChain
mod ListsMade
pub mod SignedSets
pub mod SignedChain
mod SignedChainExamples
mod Ancestors
mod NamesFrom
mod NearestRead
mod Pushed
mod MadeSets
pub mod Changes
