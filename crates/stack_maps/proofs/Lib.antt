pub mod Rows
pub mod TypeLaws
pub mod FrameLaws
pub mod MapLaws
pub mod LoopLaws
