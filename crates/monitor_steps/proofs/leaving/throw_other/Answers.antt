use Rattle.std.proofs.Common.{ℕ, ap, refl, subst}
use Rattle.program_state.specs.declared.state.ProgramState.{ProgramState}
use Rattle.program_state.proofs.StepLaws.{on_ok}
use Rattle.monitor_steps.specs.Frames.{UnownedLeads}
use Rattle.monitor_steps.proofs.LeaveLaws.{unowned_leads}
use Rattle.monitor_steps.proofs.leaving.throw_other.Goals as goal

pub returns-clause-leads : goal.returns-clause-leads
returns-clause-leads g c =
    let w = g.W.EventWorld.world c.args.world.now in
    let a = c.args.state.now in
    let m = c.args.mounted.now in
    let n = c.throw_unowned.new.mounted in
    let b = c.throw_unowned.new.parts in
    let row = c.in_ok-name.field-0 in
    let new = c.settle_status.new.state in
    on_ok c.settle_status.result c.settle_status.ensures.settled (λ settled.
    subst (λ (t : ℕ). UnownedLeads w c.args.o t a m.stack.frames new n.stack.frames) c.thread-t.ensures
    (unowned_leads w c.args.o c.thread-t.result row.name row a new b m.stack.frames n.stack.frames c.in_ok-name.ensures refl c.in_ok-throw_unowned.ensures settled))

pub returns-clause-monitors : goal.returns-clause-monitors
returns-clause-monitors g c =
    on_ok c.settle_status.result c.settle_status.ensures.settled (λ settled. ap (λ (s : ProgramState). s.monitors) settled.state)
