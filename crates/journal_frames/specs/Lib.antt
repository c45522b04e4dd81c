pub mod Frames
pub mod Journals
