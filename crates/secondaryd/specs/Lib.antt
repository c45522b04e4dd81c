pub mod Channels
pub mod Versions
pub mod Followings
pub mod Files
pub mod Frames
