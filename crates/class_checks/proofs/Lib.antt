pub mod ItemLaws
pub mod FileLaws
pub mod LaneLaws
pub mod NameLaws
pub mod NameUnitLaws
pub mod NamesByUnits
