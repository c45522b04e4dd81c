pub mod Renewing
pub mod Signing
pub mod Laws
