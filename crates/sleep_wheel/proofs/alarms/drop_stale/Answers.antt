use Rattle.std.proofs.Common.{rules}
use Rattle.sleep_wheel.specs.Alarms.{IsLive}
use Rattle.sleep_wheel.proofs.AlarmLaws.{covers_popped}
use Rattle.sleep_wheel.proofs.alarms.drop_stale.Goals as goal

pub loop-top-preserved : goal.loop-top-preserved
loop-top-preserved c =
    let stale : IsLive c.args.sleepers.now.slots c.in-Some.top.now.0 → ⊥ = λ live. let t = c.if-is_live.ensures.1 live in cc in
    record {
      covers = covers_popped c.args.sleepers.now.slots _ _ c.pop.result c.in-Some.top.now c.loop-top.invariant.covers c.in-Some.ensures.lookup stale c.pop.ensures.top c.pop.ensures.permutation c.pop.ensures.heap_order (search rules);
      len = search rules;
      capacity = search rules;
    }
