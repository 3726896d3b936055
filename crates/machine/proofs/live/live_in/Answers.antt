use Rattle.machine.proofs.LiveLaws.{live_next}
use Rattle.machine.proofs.live.live_in.Goals as goal

pub loop-t-preserved : goal.loop-t-preserved
loop-t-preserved c =
    live_next c.args.table.now c.loop-t.t c.is_alive.result c.loop-t.live.items c.push_if.new.numbers.items c.is_alive.ensures c.loop-t.invariant c.in_ok-push_if.ensures
