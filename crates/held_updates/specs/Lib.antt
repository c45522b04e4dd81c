pub mod Tables
pub mod Planning
pub mod Journaling
pub mod Changing
pub mod Answering
pub mod Committing
pub mod Replaying
pub mod Laws
