pub mod KeyLists
pub mod ChainParts
pub mod ZskTrust
pub mod ZskChains
pub mod Sides
pub mod KskTrust
pub mod KskChains
pub mod AlgorithmTrust
pub mod UsedParts
pub mod AlgorithmUses
pub mod AlgorithmChains
pub mod ExampleKeys
mod TimelineExamples
mod HastyExamples
mod MetPremises
pub mod WholeTests
