use Rattle.std.proofs.Common.{sym, ◌∙◌}
use Rattle.machine.proofs.PutFacts.{nowhere_free, put_roused}
use Rattle.machine.proofs.puts.put_roused.Goals as goal

pub put_if-requires-clause-free : goal.put_if-requires-clause-free
put_if-requires-clause-free c = λ wanted.
    nowhere_free c.args.state.now c.args.deques.now.lists c.args.u c.is_nowhere-nowhere.result c.may_step-goes.result c.is_nowhere-nowhere.ensures wanted

pub returns-clause-put : goal.returns-clause-put
returns-clause-put c =
    put_roused c.args.state.now c.args.t c.args.c c.args.u c.args.deques.now.lists c.put_if.new.deques.lists c.is_nowhere-nowhere.result c.may_step-goes.result c.ending.result
    c.requires.goes c.ending.ensures (sym c.is_some.ensures ∙ c.if-is_some.false) c.is_nowhere-nowhere.ensures c.may_step-goes.ensures c.put_if.ensures.lists
