use Rattle.thread_steps.proofs.ThrowLaws.{on_ok}
use Rattle.thread_steps.proofs.AskingLaws.{native_proceeds, native_stays}
use Rattle.thread_steps.proofs.calls.native_step.Goals as goal

pub returns-clause-progress : goal.returns-clause-progress
returns-clause-progress g c =
    let w = g.W.EventWorld.world c.args.world.now in
    let a = c.args.parts.now in
    let s = c.run_native.new.state in
    let b = c.conclude_or_ask.new.parts in
    let m = c.args.mounted.now in
    let new = c.run_native.new.mounted in
    let last = c.conclude_or_ask.new.mounted in
    let o = c.in_ok-outcome.outcome in
    on_ok c.conclude_or_ask.result c.conclude_or_ask.ensures
    (native_proceeds w a b s c.args.native c.args.next m new last o c.conclude_or_ask.new.progress c.in_ok-outcome.ensures.effect c.in_ok-outcome.ensures.kept c.in_ok-outcome.ensures.kept_state c.run_native.ensures.only
    c.operands_fit-2.ensures)

pub returns-clause-stays : goal.returns-clause-stays
returns-clause-stays g c =
    let w = g.W.EventWorld.world c.args.world.now in
    let mid = record c.args.parts.now { natives = c.run_native.new.state } in
    let b = c.conclude_or_ask.new.parts in
    let m = c.args.mounted.now in
    let new = c.run_native.new.mounted in
    let last = c.conclude_or_ask.new.mounted in
    let o = c.in_ok-outcome.outcome in
    on_ok c.conclude_or_ask.result c.conclude_or_ask.ensures (native_stays w mid b c.args.next m new last o c.conclude_or_ask.new.progress c.in_ok-outcome.ensures.kept)
