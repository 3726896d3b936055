pub mod OrderLaws
pub mod SlotLaws
pub mod AlarmLaws
pub mod DueLaws
pub mod RebuildLaws
pub mod UniqueLaws
