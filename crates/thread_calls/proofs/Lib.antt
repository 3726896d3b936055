pub mod CreateLaws
mod TimeLaws
