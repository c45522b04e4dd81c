pub mod About
pub mod Apart
pub mod Permitted
pub mod Stays
pub mod Endings
pub mod GoingOn
