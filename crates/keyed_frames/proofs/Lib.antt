pub mod Sent
pub mod ServedFrames
pub mod StoppedFrames
pub mod Written
