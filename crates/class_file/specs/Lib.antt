pub mod Numbers
pub mod Texts
pub mod Constants
pub mod Attributes
pub mod AttributeNames
pub mod File
pub mod Costs
