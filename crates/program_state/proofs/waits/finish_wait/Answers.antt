use Rattle.std.proofs.Common.{Bool, sym, subst, ◌∙◌}
use Rattle.program_state.specs.Waiting.{EndsWait}
use Rattle.program_state.proofs.StepLaws.{on_ok}
use Rattle.program_state.proofs.WaitEndLaws.{wait_interrupted, wait_over}
use Rattle.program_state.proofs.waits.finish_wait.Goals as goal

pub returns-then-interrupted-clause-steps : goal.returns-then-interrupted-clause-steps
returns-then-interrupted-clause-steps g c =
    let w = g.W.EventWorld.world c.args.world.now in
    let t = c.thread-t.result in
    let b = c.ask_again.new.state in
    let mid = c.end_wait.new.state in
    on_ok c.throw.result c.throw.ensures.raised
    (wait_interrupted w t c.args.state.now b mid c.throw.new.state c.args.mounted.now c.ask_again.new.mounted c.in_ok-pending.ensures.stays c.thread-t.ensures
    (subst (λ (x : Bool). EndsWait t b mid x) c.if-interrupted.true c.in_ok-interrupted.ensures.ends))

pub returns-clause-steps : goal.returns-clause-steps
returns-clause-steps g c =
    let w = g.W.EventWorld.world c.args.world.now in
    let t = c.thread-t.result in
    let b = c.ask_again.new.state in
    let mid = c.end_wait.new.state in
    on_ok c.conclude_reply.result c.conclude_reply.ensures.concludes
    (wait_over w c.in_ok-pending.pending t c.args.state.now b mid c.conclude_reply.new.state c.args.mounted.now c.ask_again.new.mounted c.conclude_reply.new.mounted.stack.frames
    c.in_ok-pending.ensures.stays c.thread-t.ensures c.in_ok-pending.ensures.pending (sym c.may_wait.ensures ∙ c.if-not-may_wait.false)
    (subst (λ (x : Bool). EndsWait t b mid x) c.if-interrupted.false c.in_ok-interrupted.ensures.ends))
