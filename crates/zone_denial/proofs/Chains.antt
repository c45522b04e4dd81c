-- The chains of NSEC and NSEC3 sets, of which a circle is one, and the denials by them
pub mod ChainSets
pub mod SameSets
pub mod Circles
pub mod NsecLinks
pub mod NsecClosest
pub mod NsecWildcard
pub mod NsecLists
pub mod NsecBelow
pub mod NsecAskedWildcard
pub mod Nsec3Names
pub mod Nsec3Owners
pub mod Nsec3Covers
pub mod Nsec3Encloses
pub mod Nsec3Wildcard
pub mod Nsec3Denies
pub mod Nsec3Lists
pub mod Nsec3AskedWildcard
