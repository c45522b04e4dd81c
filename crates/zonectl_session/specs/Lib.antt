pub mod DemoSigners
pub mod Replies
pub mod Sessions
pub mod SessionLaws
pub mod Steps
