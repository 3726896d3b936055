pub mod PrefixLaws
pub mod ListLaws
pub mod PutLaws
pub mod EntryLaws
pub mod OpeningLaws
pub mod RunLaws
pub mod PlaceLaws
pub mod OtherLaws
pub mod StarveLaws
pub mod WordLaws
pub mod ChangeLaws
mod WorkedLooks
mod WorkedHistories
mod WorkedPromises
