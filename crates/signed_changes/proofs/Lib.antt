pub mod ClosedChain
pub mod DueSets
pub mod PutSets
