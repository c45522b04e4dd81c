pub mod Counted
pub mod OneByOne
pub mod Pushed
pub mod Faults
