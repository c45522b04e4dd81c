pub mod Giving
pub mod Holding
pub mod Versions
pub mod Arriving
