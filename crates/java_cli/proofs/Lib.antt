pub mod AnswerLaws
pub mod CommandLaws
pub mod DueLaws
pub mod LineLaws
pub mod RunLaws
pub mod ToolLaws
pub mod GenLaws
