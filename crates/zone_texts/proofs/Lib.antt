pub mod Alone
pub mod Digits
pub mod Fallbacks
pub mod FileNames
pub mod Generated
pub mod GoingOn
pub mod Parts
pub mod Whole
