pub mod Signings
pub mod Outcomes
pub mod Beginning
pub mod Asking
pub mod SigningPlans
pub mod Finishing
pub mod Versions
pub mod Calls
