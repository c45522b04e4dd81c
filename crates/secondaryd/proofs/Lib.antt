pub mod FrameFacts
pub mod ChannelFacts
pub mod FollowingFacts
