pub mod Names
pub mod NameUnits
pub mod TextRoles
pub mod Sizes
pub mod Costs
