pub mod Words
pub mod Numbers
pub mod Mnemonics
pub mod Meaning
pub mod LineText
pub mod Parsing
pub mod Spelling
