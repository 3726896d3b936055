mod FieldLaws
mod HandlerLaws
mod InstructionLaws
mod TableLaws
