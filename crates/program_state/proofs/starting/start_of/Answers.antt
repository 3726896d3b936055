use Rattle.std.proofs.Common.{ℕ, ap, subst, sym, ◌∙◌}
use Rattle.link_rules.specs.declared.choice.Choice.{Choice}
use Rattle.link_model.specs.Decoded.{code_at}
use Rattle.ref_model.specs.Starting.{begun_by, begun_with}
use Rattle.program_state.specs.declared.starting.Start.TheVariants.{Throws}
use Rattle.ref_model.specs.declared.exception.Exception.TheVariants as exceptions
use Rattle.program_state.specs.Starting.{IsRun, IsStart, StartGives}
use Rattle.program_state.proofs.StepLaws.{if_ok}
use Rattle.program_state.proofs.StartLaws.{is_selected}
use Rattle.program_state.proofs.starting.start_of.Goals as goal

pub returns-in_ok-method-in-Method : goal.returns-in_ok-method-in-Method
returns-in_ok-method-in-Method g c =
    let w = g.W.EventWorld.world c.args.world.now in
    let own = c.in_ok-row.row in
    let u = c.args.u in
    if_ok (IsRun w u own.object (c.in_ok-method-in-Method).method) (IsStart w u c.args.state.now) c.begin_run.result c.begin_run.ensures (λ start run.
    is_selected w u c.args.state.now own c.in-Some.run' c.in-Some-class_number.class c.in-Some-2.choice start c.in_ok-row.ensures c.in-New.is (sym c.in-Some.ensures) (sym c.in-Some-class_number.ensures)
    (sym c.in_ok-choice.ensures ∙ c.in-Some-2.is) (λ r.
    subst (λ (x : Choice). StartGives w u r start (λ t k. begun_by w r t k u own.object x)) (sym c.in-Method.is)
    (subst (λ (n : ℕ). StartGives w u r start (λ t k. begun_with w r t k u own.object n (code_at w n))) (c.in_ok-method-in-Method).ensures (run r))))

pub returns-in-Abstract : goal.returns-in-Abstract
returns-in-Abstract g c =
    let w = g.W.EventWorld.world c.args.world.now in
    let own = c.in_ok-row.row in
    let u = c.args.u in
    is_selected w u c.args.state.now own c.in-Some.run' c.in-Some-class_number.class c.in-Some-2.choice (Throws exceptions.AbstractMethodError) c.in_ok-row.ensures c.in-New.is (sym c.in-Some.ensures)
    (sym c.in-Some-class_number.ensures) (sym c.in_ok-choice.ensures ∙ c.in-Some-2.is) (λ r t k. ap (begun_by w r t k u own.object) c.in-Abstract.is)

pub returns-in-Several : goal.returns-in-Several
returns-in-Several g c =
    let w = g.W.EventWorld.world c.args.world.now in
    let own = c.in_ok-row.row in
    let u = c.args.u in
    is_selected w u c.args.state.now own c.in-Some.run' c.in-Some-class_number.class c.in-Some-2.choice (Throws exceptions.IncompatibleClassChangeError) c.in_ok-row.ensures c.in-New.is (sym c.in-Some.ensures)
    (sym c.in-Some-class_number.ensures) (sym c.in_ok-choice.ensures ∙ c.in-Some-2.is) (λ r t k. ap (begun_by w r t k u own.object) c.in-Several.is)
