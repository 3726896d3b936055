pub mod Bodies
pub mod Mentions
pub mod Growing
pub mod FrameTypes
