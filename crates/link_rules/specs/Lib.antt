pub mod Program
pub mod Hierarchy
pub mod Members
pub mod Resolution
pub mod Selection
pub mod Constants
pub mod Instructions
pub mod Faults
