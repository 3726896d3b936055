use Rattle.std.proofs.Common.{None, arith, sym, ◌∙◌}
use Rattle.machine.specs.Stalls.{goes_on}
use Rattle.machine.proofs.AnyLaws.{any_behind, any_end, any_here}
use Rattle.machine.proofs.stalls.any_enabled.Goals as goal

pub returns-then-goes : goal.returns-then-goes
returns-then-goes c = λ r out is.
    let xs = c.args.mounted.now in
    let i = c.loop-thread.thread-index in
    sym (c.loop-thread.invariant r out is ∙ any_here (goes_on r) xs i None (omega arith) (sym (c.goes.ensures r out is) ∙ c.if-goes.true))

pub loop-thread-preserved : goal.loop-thread-preserved
loop-thread-preserved c = λ r out is.
    let xs = c.args.mounted.now in
    let i = c.loop-thread.thread-index in
    c.loop-thread.invariant r out is ∙ any_behind (goes_on r) xs i None (omega arith) (sym (c.goes.ensures r out is) ∙ c.if-goes.false)

pub returns : goal.returns
returns c = λ r out is.
    let xs = c.args.mounted.now in
    let i = c.loop-thread.thread-index in
    sym (c.loop-thread.invariant r out is ∙ any_end (goes_on r) xs i (omega arith))
