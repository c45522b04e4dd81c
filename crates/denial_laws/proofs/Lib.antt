pub mod Tests
pub mod Readings
pub mod Speaking
pub mod ShownEnclosers
pub mod NameErrors
pub mod OwnTypes
pub mod EmptyAnswers
pub mod NothingFound
pub mod Soundness
pub mod Silence
pub mod Sums
mod ScopeExamples
mod MetPremises
mod Nsec3ScopeExamples
pub mod Circles
pub mod Chains
pub mod CircleLaws
pub mod Nsec3CircleLaws
pub mod Nsec3Readings
pub mod Nsec3Shown
pub mod Nsec3Proved
pub mod Nsec3Soundness
pub mod Nsec3Silence
pub mod Nsec3Sums
pub mod Nsec3Calls
mod Nsec3MetPremises
