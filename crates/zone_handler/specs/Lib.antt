pub use Rattle.lookup_types.specs.Errors
pub use Rattle.lookup_types.specs.Hashing
pub mod ControlFlow
pub mod Sets
pub mod Answers
pub mod AuthLookup
pub mod Transfers
pub mod Defaults
