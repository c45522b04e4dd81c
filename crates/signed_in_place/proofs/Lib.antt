pub mod BelowDnames
pub mod ChainStays
pub mod DerivedStay
pub mod OwnersPushed
pub mod SignedChains
pub mod Unowned
