pub mod Copies
pub mod Found
pub mod Leading
pub mod Steps
