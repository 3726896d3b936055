use Rattle.std.proofs.Common.{sym, ◌∙◌}
use Rattle.instruction_rows.specs.TypeEffect.{type_popped}
use Rattle.verify_instructions.specs.Views.{environment_in}
use Rattle.verify_instructions.proofs.ResultLaws.{peeked}
use Rattle.verify_instructions.proofs.state.State.is_result.Goals as goal

pub returns : goal.returns
returns g c =
    c.is_of_result.ensures
    ∙ peeked (environment_in (g.L.Lookups.world c.args.w.now) c.args.m.now) (type_popped c.args.kind c.args.self.now.types.stack) c.in-Some.t (sym c.in-Some.is ∙ c.peek.ensures)
