mod Passing
mod AlgorithmNames
pub mod Authentic
pub mod AuthenticResponses
pub mod SignedLengths
