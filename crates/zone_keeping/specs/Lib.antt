pub mod Usable
pub mod Fitting
pub mod Keeping
pub mod Standing
pub mod Faults
pub mod KeepingLaws
pub mod DenialLaws
