pub mod Lists
pub mod Gathered
pub mod Tails
pub mod Sent
pub mod Fits
pub mod Asked
pub mod KeysAsked
