-- Names of a zone, and their ancestors
pub mod AboveTests
pub mod AuthoritativeNames
pub mod ExistingAncestors
pub mod LongestAncestors
pub mod NewAncestors
pub mod Naming
pub mod NamingSteps
