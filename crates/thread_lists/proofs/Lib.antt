pub mod CountLaws
pub mod RingLaws
pub mod SpellLaws
