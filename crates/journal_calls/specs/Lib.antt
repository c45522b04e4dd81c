pub mod Laws
pub mod Outcomes
pub mod Plans
pub mod Replays
