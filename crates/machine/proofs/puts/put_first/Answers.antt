use Rattle.machine.proofs.PutFacts.{alone_free}
use Rattle.machine.proofs.puts.put_first.Goals as goal

pub put_if-requires-clause-free : goal.put_if-requires-clause-free
put_if-requires-clause-free c = λ wanted.
    alone_free c.args.state.now c.args.deques.now.lists c.in-Some.u c.is_nowhere-nowhere.result c.is_nowhere-nowhere.ensures wanted
