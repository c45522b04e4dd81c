pub mod Parts
pub mod Plans
pub mod Locality
