use Rattle.std.proofs.Common.{◌≡◌, ◌-◌, ℕ, suc, Option, Some, arith, subst, sym}
use Rattle.ref_run.specs.GoingOn.{Comes}
use Rattle.ref_run.specs.States.{state_of}
use Rattle.ref_run.specs.Steps.{made_entry}
use Rattle.ref_run.proofs.EntryLaws.{entry_goes}
use Rattle.ref_run.proofs.entries.step_entry.Goals as goal

pub returns-in-Ok-clause-entry : goal.returns-in-Ok-clause-entry
returns-in-Ok-clause-entry c =
    let w = c.args.program.now in
    let r = state_of c.args.state.now in
    let before : c.args.steps ≡ suc (c.args.steps - 1) = omega arith in
    subst (λ (o : Option ℕ). Comes (made_entry w r c.args.t c.args.steps o) c.step.result c.step.new.state) (sym c.in-Some.is)
    (entry_goes w r c.args.t c.args.steps (c.args.steps - 1) (Some c.in-Some.u) c.step.result c.make_steps.new.state c.step.new.state before c.in-Ok.ensures.steps c.step.ensures.step)
