pub mod SlotLaws
pub mod StackLaws
pub mod SeenLaws
pub mod Windows
