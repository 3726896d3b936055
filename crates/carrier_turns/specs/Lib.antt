pub mod LocalRuns
pub mod Hands
pub mod Turns
pub mod Acts
pub mod Steps
pub mod Plays
