pub mod Accesses
pub mod Holding
pub mod Answering
pub mod Laws
