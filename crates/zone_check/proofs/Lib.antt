pub mod SameSets
pub mod Served
pub mod ToldSets
