pub mod DecodedLaws
pub mod FaultLaws
pub mod ConstantUseLaws
