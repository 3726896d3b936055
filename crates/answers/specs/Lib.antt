pub mod Taken
pub mod Reports
