pub mod Binds
pub mod FirstLaws
