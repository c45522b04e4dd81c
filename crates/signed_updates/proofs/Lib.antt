pub mod Beginnings
pub mod Permitted
