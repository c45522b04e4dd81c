pub mod Waits
pub mod States
pub mod StateLaws
