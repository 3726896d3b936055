pub mod ResolutionLaws
pub mod NumberLaws
pub mod PcLaws
pub mod InstanceLaws
pub mod PlaceLaws
pub mod OwnFieldLaws
pub mod KnownResolutionLaws
pub mod ArrayLaws
