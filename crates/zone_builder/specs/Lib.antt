pub mod Records
pub mod Groups
pub mod Sets
pub mod Repeats
pub mod Warnings
pub mod Faults
pub mod GroupFaults
pub mod DenialKinds
