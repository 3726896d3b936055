pub mod Numbers
pub mod Words
pub mod Operands
pub mod Switches
pub mod Code
pub mod Frames
