use Rattle.std.proofs.Common.{sym, ◌∙◌}
use Rattle.thread_steps.proofs.ThrowLaws.{exception_is}
use Rattle.thread_steps.proofs.concluding.make_exception.Goals as goal

pub returns : goal.returns
returns g c =
    rw c.unwrap_or.ensures
    (exception_is (g.W.EventWorld.world c.args.world.now) c.args.heap.now c.make_object.new.heap c.args.exception c.in-Some.class c.new_values.result.now c.in_ok-made.made
    (sym c.exception_class.ensures ∙ c.in-Some.is) c.new_values.ensures c.in_ok-made.ensures.made)
