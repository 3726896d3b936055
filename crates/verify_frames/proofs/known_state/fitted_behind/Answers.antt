use Rattle.std.proofs.Common.{ap, sym, ◌∙◌}
use Rattle.verify_instructions.specs.Unfinished.{is_listed}
use Rattle.verify_frames.specs.declared.known_state.Fitted.{Fitted}
use Rattle.verify_frames.proofs.known_state.fitted_behind.Goals as goal

pub returns : goal.returns
returns c =
    let now = c.in_ok-new.ensures in
    let was = c.into_inner-pcs.ensures in
    let listed = c.in_ok-list_written.ensures in
    record {
      before = c.in-Some.fitted;
      written = c.in-Some-written.written;
      was = c.in-Some.is;
      is = c.in-Some-written.is;
      pcs = ap (λ (x : Fitted). x.pcs.items) now ∙ ap (λ (x : Fitted). x.pcs.items) was;
      kept = λ i e. ap (λ (x : Fitted). is_listed x.changed.items i) (sym was) ∙ listed.kept i (ap (λ (x : Fitted). is_listed x.changed.items i) (sym now) ∙ e);
      others = λ i e. listed.others i (ap (λ (x : Fitted). is_listed x.changed.items i) (sym now) ∙ e);
    }
