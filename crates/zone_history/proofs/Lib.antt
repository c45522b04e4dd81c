pub mod Backwards
pub mod Walking
