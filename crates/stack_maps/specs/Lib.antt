pub mod Encoding
pub mod Changes
pub mod Readers
pub mod Expansion
