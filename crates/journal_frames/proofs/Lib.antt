pub mod Checksums
pub mod Cuts
pub mod OneFrame
