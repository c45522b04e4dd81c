-- The circle of NSEC sets, and the denials by it
pub mod NsecCircle
pub mod NsecClosest
pub mod NsecEnclosers
pub mod NsecLists
pub mod NsecBelow
pub mod NsecWildcard
pub mod NsecAskedWildcard
pub mod NsecSecured
pub mod ClosestSets
pub mod CircleReads
pub mod DenialLists
