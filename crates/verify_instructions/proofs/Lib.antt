pub mod Lists
pub mod TableLaws
pub mod ResultLaws
pub mod LocalLaws
pub mod NewLaws
pub mod StackLaws
pub mod EffectLaws
