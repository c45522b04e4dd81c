-- Worked examples
pub mod NsecExamples
pub mod Nsec3Examples
mod Nsec3SetExamples
mod Nsec3FalseCover
mod WildcardExamples
mod ChainExamples
mod NsecPremises
mod Nsec3Premises
