pub mod Planned
pub mod OfNames
pub mod Framed
pub mod Asked
