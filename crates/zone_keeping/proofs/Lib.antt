pub mod SameOctets
pub mod Fits
pub mod KeptOver
pub mod SameDenials
pub mod KeptAnswers
pub mod KeptSecured
