pub mod NameTests
pub mod ListTests
pub mod AncestorWalk
pub mod EncloserLabels
pub mod ShownWalk
pub mod EncloserProofs
pub mod WildcardAnswers
pub mod Nsec3Sums
mod NsecExamples
mod NsecForgeries
mod Nsec3Examples
mod Nsec3SumExamples
mod Nsec3Forgeries
