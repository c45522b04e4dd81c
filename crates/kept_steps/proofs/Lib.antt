pub mod Leading
pub mod Newest
pub mod Rooms
