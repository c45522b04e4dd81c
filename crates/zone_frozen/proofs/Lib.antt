pub mod SetsFrom
pub mod Nearest
pub mod UnderKeys
pub mod Inserted
mod Refilling
mod Retained
mod FirstRows
