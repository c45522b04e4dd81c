pub mod ReferredNames
pub mod Unauthoritative
pub mod KeptSets
pub mod KeptReferrals
