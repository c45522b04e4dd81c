pub mod ChainSets
pub mod Lists
pub mod NsecNames
pub mod NsecDenied
pub mod Nsec3Names
pub mod Order
