pub mod Library
pub mod Names
pub mod Begins
pub mod FirstValues
pub mod OpeningClasses
