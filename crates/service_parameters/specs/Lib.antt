pub mod Items
pub mod Keys
pub mod Values
pub mod Parameters
pub mod Gives
