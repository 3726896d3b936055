pub mod KindLaws
pub mod FirstBad
pub mod StateLaws
pub mod FrontKind
pub mod ArgsLaws
pub mod MeaningLaws
