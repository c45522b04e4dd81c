pub mod Agreed
pub mod Copied
pub mod Leading
pub mod Shows
pub mod Starting
