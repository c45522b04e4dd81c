pub mod Series
pub mod Faults
pub mod Singles
