use Rattle.std.proofs.Common.{◌≡◌, true, sym, ◌∙◌}
use Rattle.verify_frames.specs.Overwrites.{overwritten_since}
use Rattle.verify_frames.specs.KnownStates.{type_state}
use Rattle.verify_frames.proofs.OverwriteLaws.{none_in}
use Rattle.verify_frames.proofs.KnownStateLaws.{judged_over}
use Rattle.verify_code.proofs.environment.Environment.judged_over.Goals as goal

pub returns-in-Some : goal.returns-in-Some
returns-in-Some g c = λ f t at is.
    let empty : c.is_empty.result ≡ true = cc in
    let none = sym c.overwritten.ensures ∙ none_in c.is_empty.result c.overwritten.result.now c.is_empty.ensures empty in
    judged_over c.args.self.now (overwritten_since c.args.s.now.like) (type_state c.args.s.now) c.args.pc c.in-Some.field-0 f t c.args.s.now.judged none c.in-Some.ensures at is c.requires.judged
