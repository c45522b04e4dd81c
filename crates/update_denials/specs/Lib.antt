pub mod Prepared
pub mod Committed
pub mod Laws
