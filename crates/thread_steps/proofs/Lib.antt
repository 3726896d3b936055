pub mod StageLaws
pub mod StepLaws
pub mod ThrowLaws
pub mod EventLaws
pub mod CallLaws
pub mod ReturnLaws
pub mod AskingLaws
