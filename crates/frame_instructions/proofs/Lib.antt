pub mod RowShapes
pub mod TopWrites
pub mod LowWords
pub mod MadeRows
pub mod VariableRows
