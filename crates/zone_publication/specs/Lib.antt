pub mod Dates
pub mod Delegations
pub mod Findings
pub mod Names
pub mod Requests
pub mod Signatures
pub mod Targets
pub mod Warnings
