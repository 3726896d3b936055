use Rattle.std.proofs.Common.{ℤ, ap, rules, subst, sym, ◌∙◌}
use Rattle.std.specs.Prelude.{IfOk}
use Rattle.std.specs.Int.{w64}
use Rattle.std.proofs.lemmas.Int.{to_z-of_z}
use Rattle.ref_model.specs.declared.request.ThreadRequest.{ThreadRequest}
use Rattle.ref_model.specs.declared.request.ThreadRequest.TheVariants as requests
use Rattle.schedule_soundness.specs.PutLaws.{OthersStay}
use Rattle.program_state.specs.Replies.{Answers, IsTold}
use Rattle.program_state.proofs.RowLaws.{told_answers}
use Rattle.program_state.proofs.StepLaws.{if_ok}
use Rattle.program_state.proofs.requests.answer.Goals as goal

pub returns-in_default-clause-answers : goal.returns-in_default-clause-answers
returns-in_default-clause-answers c w =
    let a = c.args.state.now in
    let t = c.args.t in
    if_ok (IsTold w c.args.request t a.threads) (Answers w c.args.request (OthersStay t) t a a) c.tell_request.result (c.tell_request.ensures w)
    (λ reply told. told_answers w c.args.request t a reply told)

pub returns-in-Sleeps-clause-answers : goal.returns-in-Sleeps-clause-answers
returns-in-Sleeps-clause-answers c w =
    subst (λ (q : ThreadRequest). IfOk c.sleep.result (Answers w q (OthersStay c.args.t) c.args.t c.args.state.now c.sleep.new.state))
    (ap (λ (z : ℤ). requests.Sleeps z) (to_z-of_z w64 c.in-Sleeps.millis (search rules)) ∙ sym c.in-Sleeps.is) (c.sleep.ensures.answers w)
