pub mod Keys
pub mod Mentions
pub mod Places
