pub mod Resolutions
pub mod StepLaws
pub mod OpeningLaws
pub mod MethodKinds
