pub mod Text
pub mod Names
pub mod Layout
pub mod Ranges
pub mod Pool
pub mod Attributes
pub mod Checks
pub mod Grammar
