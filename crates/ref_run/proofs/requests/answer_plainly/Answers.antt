use Rattle.std.proofs.Common.{ℤ, ap, rules, subst, sym, ◌∙◌}
use Rattle.std.specs.Int.{w64}
use Rattle.std.proofs.lemmas.Int.{to_z-of_z}
use Rattle.ref_model.specs.declared.request.ThreadRequest.{ThreadRequest}
use Rattle.ref_model.specs.declared.request.ThreadRequest.TheVariants as requests
use Rattle.ref_run.specs.Replies.{Answers}
use Rattle.ref_run.specs.States.{state_of}
use Rattle.ref_run.proofs.requests.answer_plainly.Goals as goal

pub returns-in-Sleeps : goal.returns-in-Sleeps
returns-in-Sleeps c w =
    subst (λ (q : ThreadRequest). Answers w q c.args.t (state_of c.args.state.now) c.sleep.result (state_of c.sleep.new.state))
    (ap (λ (z : ℤ). requests.Sleeps z) (to_z-of_z w64 c.in-Sleeps.millis (search rules)) ∙ sym c.in-Sleeps.is) (c.sleep.ensures w)
