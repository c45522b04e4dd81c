pub mod Passing
pub mod Kept
pub mod Links
pub mod NsecChains
pub mod Nsec3Links
pub mod Nsec3Chosen
pub mod Nsec3Chains
