pub mod Formats
pub mod Encoding
pub mod Operands
pub mod Meaning
pub mod Code
pub mod Indexes
