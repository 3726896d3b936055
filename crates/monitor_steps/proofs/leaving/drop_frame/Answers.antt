use Rattle.std.proofs.Common.{ℕ, ap, refl, subst}
use Rattle.program_state.specs.declared.state.ProgramState.{ProgramState}
use Rattle.program_state.proofs.StepLaws.{on_ok}
use Rattle.monitor_steps.specs.Frames.{DropLeads}
use Rattle.monitor_steps.proofs.LeaveLaws.{drop_leads}
use Rattle.monitor_steps.proofs.leaving.drop_frame.Goals as goal

pub returns-clause-leads : goal.returns-clause-leads
returns-clause-leads g c =
    let w = g.W.EventWorld.world c.args.world.now in
    let a = c.args.state.now in
    let m = c.args.mounted.now in
    let n = c.drop_unlocked.new.mounted in
    let b = c.drop_unlocked.new.parts in
    let row = c.in_ok-name.field-0 in
    let new = c.settle_status.new.state in
    on_ok c.settle_status.result c.settle_status.ensures.settled (λ settled.
    subst (λ (t : ℕ). DropLeads w c.args.o c.args.class t a m.stack.frames new n.stack.frames) c.thread-t.ensures
    (drop_leads w c.args.o c.args.class c.thread-t.result row.name row a new b m.stack.frames n.stack.frames c.in_ok-name.ensures refl c.in_ok-drop_unlocked.ensures settled))

pub returns-clause-monitors : goal.returns-clause-monitors
returns-clause-monitors g c =
    on_ok c.settle_status.result c.settle_status.ensures.settled (λ settled. ap (λ (s : ProgramState). s.monitors) settled.state)
