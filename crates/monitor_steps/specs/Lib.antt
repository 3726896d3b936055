pub mod Outcomes
pub mod Owners
pub mod Replies
pub mod Entries
pub mod Frames
pub mod Waits
