use Rattle.std.proofs.Common.{[], arith, sym, ◌∙◌}
use Rattle.std.specs.List.{list_any}
use Rattle.ref_model.specs.Step.{enabled}
use Rattle.machine.proofs.AnyLaws.{any_behind, any_end, any_here}
use Rattle.machine.proofs.stalls.any_deque_goes.Goals as goal

pub returns-then-deque_goes : goal.returns-then-deque_goes
returns-then-deque_goes c = λ r out is.
    let lists = c.args.deques.now.lists in
    sym (c.loop-k.invariant r out is ∙ any_here (list_any (enabled r)) lists c.loop-k.k [] (omega arith) (sym (c.deque_goes.ensures r out is) ∙ c.if-deque_goes.true))

pub loop-k-preserved : goal.loop-k-preserved
loop-k-preserved c = λ r out is.
    let lists = c.args.deques.now.lists in
    c.loop-k.invariant r out is ∙ any_behind (list_any (enabled r)) lists c.loop-k.k [] (omega arith) (sym (c.deque_goes.ensures r out is) ∙ c.if-deque_goes.false)

pub returns : goal.returns
returns c = λ r out is.
    sym (c.loop-k.invariant r out is ∙ any_end (list_any (enabled r)) c.args.deques.now.lists c.loop-k.k (omega arith))
