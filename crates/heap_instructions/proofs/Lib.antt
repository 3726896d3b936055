pub mod OperandLaws
pub mod FieldLaws
pub mod HeapReadLaws
pub mod ArrayStoreLaws
pub mod DispatchLaws
pub mod ArrayMakingLaws
pub mod DivisionLaws
