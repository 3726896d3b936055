pub mod States
pub mod Concluding
pub mod Operands
pub mod Returning
pub mod Asking
