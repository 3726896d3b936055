use Rattle.std.proofs.Common.{ℕ, ap, subst}
use Rattle.program_state.specs.declared.state.ProgramState.{ProgramState}
use Rattle.program_state.specs.Settling.{IsSettled}
use Rattle.program_state.proofs.StepLaws.{on_ok}
use Rattle.monitor_steps.proofs.LeaveLaws.{return_leads}
use Rattle.monitor_steps.proofs.returning.leave_frame.Goals as goal

pub returns-clause-leads : goal.returns-clause-leads
returns-clause-leads g c =
    let w = g.W.EventWorld.world c.args.world.now in
    let a = c.args.state.now in
    let m = c.args.mounted.now in
    let n = c.return_unlocked.new.mounted in
    let b = c.return_unlocked.new.parts in
    on_ok c.settle_status.result c.settle_status.ensures.settled (λ settled.
    return_leads w c.args.kind m.thread a c.settle_status.new.state b m.stack.frames n.stack.frames c.in_ok-return_unlocked.ensures
    (subst (λ (t : ℕ). IsSettled t (record a { memory = b }) c.settle_status.new.state) c.thread-t.ensures settled))

pub returns-clause-monitors : goal.returns-clause-monitors
returns-clause-monitors g c =
    on_ok c.settle_status.result c.settle_status.ensures.settled (λ settled. ap (λ (s : ProgramState). s.monitors) settled.state)
