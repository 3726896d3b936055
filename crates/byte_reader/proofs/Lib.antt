pub mod ReaderLaws
pub mod SequenceLaws
pub mod LoopLaws
