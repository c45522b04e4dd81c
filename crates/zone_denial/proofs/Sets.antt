-- The sets of denial that a zone gets, or that are in it
pub mod CircleKeys
pub mod CircleSets
pub mod CirclesMade
pub mod CirclesOfZones
pub mod Linking
pub mod KeyRuns
pub mod StandingCircles
pub mod StandingSets
pub mod TakenRecords
pub mod SetsInOrder
pub mod SetsJoined
pub mod TypesJoined
pub mod TypesPassed
