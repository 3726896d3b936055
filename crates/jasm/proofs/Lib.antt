pub mod TextLaws
pub mod AddLaws
pub mod ListLaws
