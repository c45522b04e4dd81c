pub mod NsecChain
pub mod HashedChain
pub mod Updated
pub mod Bare
pub mod Faults
