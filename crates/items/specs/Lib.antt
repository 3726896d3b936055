pub mod First
pub mod Memory
pub mod Options
