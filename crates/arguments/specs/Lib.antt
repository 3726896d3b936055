pub mod CommandLine
pub mod Commands
pub mod Meanings
pub mod PlainWords
