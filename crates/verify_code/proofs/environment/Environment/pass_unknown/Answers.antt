use Rattle.std.proofs.Common.{None, refl, sym, ◌∙◌}
use Rattle.verify_code.specs.Walks.{place}
use Rattle.verify_code.proofs.WalkLaws.{passed_unknown, unknown_there, unknown_missing}
use Rattle.verify_code.proofs.environment.Environment.pass_unknown.Goals as goal

pub returns-then-has_frame : goal.returns-then-has_frame
returns-then-has_frame g c = λ resolution entry is_last.
    unknown_there c.args.self.now c.args.i.now resolution entry is_last (sym c.has_frame.ensures ∙ c.if-has_frame.true)

pub returns-else-has_frame : goal.returns-else-has_frame
returns-else-has_frame g c = λ resolution entry is_last.
    passed_unknown c.args.self.now (place c.args.i.now resolution None entry is_last) c.unknown.result c.unknown.ensures
    (unknown_missing c.args.self.now c.args.i.now resolution entry is_last (sym c.has_frame.ensures ∙ c.if-has_frame.false)) refl
