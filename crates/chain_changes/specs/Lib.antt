pub mod Locality
pub mod Renewal
pub mod RenewalLaws
pub mod SignedChains
pub mod TrimmedRenewals
