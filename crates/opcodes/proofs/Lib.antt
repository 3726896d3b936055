pub mod Table
pub mod SwitchLaws
pub mod OperandLaws
pub mod CodeLaws
pub mod IndexLaws
