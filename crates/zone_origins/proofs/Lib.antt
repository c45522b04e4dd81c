pub mod Meetings
pub mod Lookups
pub mod UnderNames
