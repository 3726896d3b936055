pub mod Tests
pub mod NumberLaws
pub mod LineLaws
pub mod TextLaws
