pub mod Signatures
pub mod Secured
