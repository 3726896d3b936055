pub mod UnitLaws
pub mod TextLaws
