pub mod Carrying
pub mod DemoSigning
pub mod FirstPath
pub mod Listing
pub mod Pushing
pub mod Refusals
pub mod ReplyExamples
pub mod Stepping
