pub mod Addresses
pub mod Base32
pub mod Hex
pub mod Moments
pub mod Names
pub mod Strings
pub mod Ttls
pub mod Types
