pub mod Versions
pub mod Holding
pub mod IncrementalLaws
pub mod WholeZones
