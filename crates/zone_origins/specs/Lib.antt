pub mod Nearest
pub mod InOrder
