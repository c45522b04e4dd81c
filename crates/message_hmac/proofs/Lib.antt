mod Differing
pub mod Lengths
mod CodeExamples
