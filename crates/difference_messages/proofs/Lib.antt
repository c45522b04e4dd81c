pub mod Pushed
pub mod Taken
pub mod Chosen
