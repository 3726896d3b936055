pub mod Causes
pub mod Runs
pub mod Headline
pub mod Tools
pub mod Generated
