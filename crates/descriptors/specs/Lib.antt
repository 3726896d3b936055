pub mod Descriptors
pub mod Refusal
pub mod States
pub mod Meaning
