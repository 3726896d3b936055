pub mod Reading
pub mod TextLaws
pub mod Making
pub mod Spelled
