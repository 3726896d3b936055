pub mod Steps
pub mod KindLaws
pub mod ListLaws
pub mod StackLaws
pub mod ItemLaws
pub mod RowLaws
pub mod TableLaws
pub mod DivisionLaws
mod WorkedRows
