pub mod Shown
pub mod Steps
pub mod Sending
pub mod Agreeing
pub mod StepLaws
pub mod Starting
