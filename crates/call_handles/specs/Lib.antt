pub mod Holding
pub mod Rooms
