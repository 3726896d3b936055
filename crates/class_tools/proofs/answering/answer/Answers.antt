use Rattle.std.proofs.Common.{[], ◌∷◌, refl, string_bytes}
use Rattle.command_line.specs.Commands.{names_of_files, no_names}
use Rattle.class_tools.proofs.AnswerLaws.{line_is, refused_out}
use Rattle.class_tools.proofs.answering.answer.Goals as goal

pub returns-in-Ok-clause-answers : goal.returns-in-Ok-clause-answers
returns-in-Ok-clause-answers g c = rw c.in-Ok.is (c.show.ensures.shown.answer, rw c.deref.ensures.value at c.show.ensures.text)

pub returns-in-Ok-clause-line : goal.returns-in-Ok-clause-line
returns-in-Ok-clause-line g c =
    line_is g.E.Sink.contents g.E.Sink.faults c.args.err.now c.show.new.err no_names (names_of_files (string_bytes c.args.file.now ∷ [])) c.show.result.why c.show.ensures.shown.answer c.show.ensures.shown.line

pub returns-in-Err-clause-answers : goal.returns-in-Err-clause-answers
returns-in-Err-clause-answers g c = rw c.in-Err.is (c.refuse.ensures.why, c.refuse.ensures.out_written, refl)

pub returns-in-Err-clause-out_faults : goal.returns-in-Err-clause-out_faults
returns-in-Err-clause-out_faults g c = refused_out c.in-Err.why c.refuse.result.why (g.O.Sink.faults c.args.out.now) c.refuse.ensures.why (rw c.in-Err.is at c.requires)
