pub mod EntryLaws
pub mod NoteLaws
pub mod StepLaws
pub mod TurnLaws
pub mod PlaceLaws
pub mod SeatLaws
pub mod DealLaws
pub mod CloseLaws
