pub mod KindLaws
pub mod ListLaws
pub mod FaultLaws
pub mod CodeLaws
pub mod WalkLaws
pub mod TypingLaws
pub mod AcceptanceLaws
mod WorkedRows
