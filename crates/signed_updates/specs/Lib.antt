pub mod Beginning
pub mod Finishing
pub mod Laws
