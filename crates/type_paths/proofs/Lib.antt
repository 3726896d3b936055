pub mod PathLaws
pub mod SlotLaws
