pub mod Flags
pub mod Names
pub mod States
pub mod ClassLines
pub mod BodyLines
pub mod Ends
pub mod Stages
