pub mod ExactLaws
pub mod AnswerLaws
