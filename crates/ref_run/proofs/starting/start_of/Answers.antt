use Rattle.std.proofs.Common.{ℕ, ap, subst, sym, ◌∙◌}
use Rattle.vthread_state.specs.declared.thread.Thread.{Thread}
use Rattle.link_rules.specs.declared.choice.Choice.{Choice}
use Rattle.link_model.specs.Decoded.{code_at}
use Rattle.ref_model.specs.Heap.{class_at}
use Rattle.ref_model.specs.Starting.{begun_by, begun_with}
use Rattle.ref_run.specs.Starting.{IsRun, IsStart, StartGives}
use Rattle.ref_run.specs.States.{state_of}
use Rattle.ref_run.proofs.StartLaws.{if_ok, is_selected}
use Rattle.ref_run.proofs.starting.start_of.Goals as goal

pub returns-in_ok-method-in-Method : goal.returns-in_ok-method-in-Method
returns-in_ok-method-in-Method g c =
    let w = g.W.EventWorld.world c.args.world.now in
    let r = state_of c.args.state.now in
    let u = c.args.u in
    let x = c.in_ok-row_at.field-0.now in
    let row = c.thread-thread.ensures in
    let own = ap (λ (z : Thread). z.object) row in
    if_ok (IsRun w u c.thread-thread.result.object (c.in_ok-method-in-Method).method) (IsStart w u r) c.begin_run.result c.begin_run.ensures (λ start run.
    is_selected w u r x c.in-Some.run' c.in-Some-class_number.class c.in-Some-2.choice start c.in_ok-row_at.ensures
    (ap (λ (z : Thread). z.status) (sym row) ∙ c.in-New.is) (sym c.requires ∙ c.in-Some.is)
    (ap (λ (o : ℕ). class_at w r.memory o) (sym own) ∙ sym c.in-Some-class_number.ensures) (sym c.in_ok-choice.ensures ∙ c.in-Some-2.is)
    (subst (λ (choice : Choice). StartGives w u r start (λ t k. begun_by w r t k u x.thread.object choice)) (sym c.in-Method.is)
    (subst (λ (n : ℕ). StartGives w u r start (λ t k. begun_with w r t k u x.thread.object n (code_at w n))) (c.in_ok-method-in-Method).ensures
    (subst (λ (o : ℕ). StartGives w u r start (λ t k. begun_with w r t k u o (c.in_ok-method-in-Method).method (code_at w (c.in_ok-method-in-Method).method))) own (run r)))))
