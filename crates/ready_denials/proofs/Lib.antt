pub mod OwnersOnce
pub mod HashedDenials
pub mod DenialFacts
