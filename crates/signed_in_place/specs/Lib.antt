pub mod ChainLaws
pub mod InPlace
pub mod SignedChains
pub mod Updates
