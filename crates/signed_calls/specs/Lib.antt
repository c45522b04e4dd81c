pub mod Outcomes
pub mod Given
pub mod Signing
pub mod Versions
pub mod Held
pub mod Preparing
pub mod Laws
