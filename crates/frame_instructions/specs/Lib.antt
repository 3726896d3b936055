pub mod SlotRows
pub mod Conditions
