pub mod Slots
pub mod Frames
pub mod Layout
pub mod Lending
