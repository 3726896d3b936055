pub mod NameLaws
pub mod FoldLaws
pub mod StartLaws
pub mod TableLaws
pub mod CodeLaws
pub mod DecodingLaws
