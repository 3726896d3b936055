use Rattle.std.proofs.Common.{arith, ◌+◌, ap, ◌∙◌}
use Rattle.continuation.specs.Continuation.{Continuation}
use Rattle.frames.specs.Frames.{entered, with_local}
use Rattle.instruction_rows.specs.declared.value.Slot.TheVariants.{One}
use Rattle.instruction_rows.specs.declared.value.Value.TheVariants as values
use Rattle.invocation.proofs.SynchronizedLaws.{monitor_set}
use Rattle.invocation.proofs.synchronized_calls.enter_synchronized.Goals as goal

pub returns-in-Ok-clause-begun : goal.returns-in-Ok-clause-begun
returns-in-Ok-clause-begun c = λ g is.
    let callee = c.args.call.callee in
    ap (λ (m : Continuation). m.stack.frames) c.set_local.ensures
    ∙ ap (with_local callee.locals (One (values.Ref c.args.call.monitor))) c.in-Ok.ensures.ok
    ∙ ap (λ n. with_local callee.locals (One (values.Ref c.args.call.monitor)) (entered callee.method (n + 1) callee.operands callee.slots c.args.mounted.now.stack.frames)) c.from.ensures
    ∙ monitor_set callee c.args.call.monitor c.args.mounted.now.stack.frames g c.requires.given (omega (arith, c.if-slots-locals.false)) is
