use Rattle.std.proofs.Common.{ap}
use Rattle.std.specs.Prelude.{None}
use Rattle.std.proofs.lemmas.Result.{on_ok_weaker}
use Rattle.machine.specs.Puts.{first_freed}
use Rattle.machine.proofs.PutFacts.{put_with_end}
use Rattle.machine.proofs.puts.put_by_end.Goals as goal

pub returns-in-Stay-clause-put : goal.returns-in-Stay-clause-put
returns-in-Stay-clause-put c =
    on_ok_weaker c.put_at_end.result
    (put_with_end c.args.state.now c.args.t c.args.c c.args.others None c.args.deques.now.lists c.put_at_end.new.deques.lists (ap first_freed c.in-Stay.is))
    c.put_at_end.ensures.put

pub returns-in-Frees-clause-put : goal.returns-in-Frees-clause-put
returns-in-Frees-clause-put c =
    let put = c.put_at_end-in-Frees in
    on_ok_weaker put.result
    (put_with_end c.args.state.now c.args.t c.args.c c.args.others c.in-Frees.first c.args.deques.now.lists put.new.deques.lists (ap first_freed c.in-Frees.is)) put.ensures.put
