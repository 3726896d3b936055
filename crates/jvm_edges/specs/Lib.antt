pub mod Bytes
pub mod Causes
pub mod Files
pub mod Nanos
pub mod Plan
pub mod States
