pub mod Outcomes
pub mod Accesses
pub mod Transfers
pub mod Steps
