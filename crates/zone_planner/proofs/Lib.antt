pub mod Tops
pub mod Passes
pub mod Fitting
pub mod KeyedSets
pub mod EachSigner
pub mod SignedChain
