pub mod Ready
pub mod OperandLaws
