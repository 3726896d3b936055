use Rattle.std.proofs.Common.{Option, ap, subst, ◌∙◌}
use Rattle.std.specs.Prelude.{IfSome, None}
use Rattle.verify_frames.specs.declared.known_state.Stored.{Stored}
use Rattle.verify_frames.specs.declared.known_state.Written.{Written}
use Rattle.verify_frames.specs.KnownStates.{AreBehind, stored_in}
use Rattle.verify_frames.specs.KnownStates.KnownAfter.{changed}
use Rattle.verify_frames.proofs.WantedLaws.{if_shown}
use Rattle.verify_frames.proofs.known_state.known_after.Goals as goal

pub returns : goal.returns
returns c =
    let fitted = c.in_ok-fitted.fitted in
    let wrote = c.written_by-written.ensures in
    changed fitted
    (if_shown c.is_same.result _ c.if-not-is_same.false c.is_same.ensures)
    (subst (λ (o : Option Written). IfSome fitted (AreBehind o c.args.fitted)) wrote c.in_ok-fitted.ensures)
    (ap (λ (x : Option Stored). record { state = c.args.state; like = c.args.like; judged = None; stored = x; fitted = fitted }) (c.in_ok-stored.ensures ∙ ap (λ (o : Option Written). stored_in o c.args.judged) wrote))
