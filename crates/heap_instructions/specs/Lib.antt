pub mod Operands
pub mod Outcomes
pub mod HeapReads
pub mod Dispatch
pub mod ArrayMaking
