pub mod StretchLaws
pub mod HeapLaws
pub mod EntryLaws
