use Rattle.std.proofs.Common.{ap, sym, ◌∙◌, ◌&&◌, ◌||◌, not}
use Rattle.std.specs.Prelude.{is_some}
use Rattle.ref_model.specs.Step.{enabled}
use Rattle.program_state.specs.Deadlines.{deadlines_of}
use Rattle.machine.specs.Stalls.{is_kept_back}
use Rattle.machine.proofs.stalls.is_kept_back.Goals as goal

pub returns-then-pinned : goal.returns-then-pinned
returns-then-pinned c = λ r out is.
    ap not (c.is_coming.ensures r out is)
    ∙ ap (λ b. b && not (enabled r c.in-Some.t || is_some (deadlines_of r.now r.threads c.in-Some.t))) (sym c.if-pinned.true)
    ∙ ap (λ o. is_kept_back r o c.args.pinned) (sym c.in-Some.is)
