pub mod Noted
pub mod Sealed
pub mod Going
pub mod Lacked
pub mod Leading
pub mod Granted
pub mod Shortened
pub mod Recalls
