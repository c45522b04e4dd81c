pub mod Circle
pub mod Local
pub mod Names
pub mod OthersStay
pub mod RenewedCircle
mod Ancestors
mod Counted
mod NamesFrom
mod Listed
mod AffectedPushed
mod AffectedFound
mod InOrderOnce
mod NearestRead
mod Betweens
mod Renewing
mod Halving
mod InOrder
mod NextPlaces
mod Passing
mod AffectedPlaces
mod TrimmedTwice
mod RightSets
mod MadeSets
mod EntriesMade
mod Closed
mod RightMade
mod HashesMade
