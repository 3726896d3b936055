use Rattle.std.proofs.Common.{ap, ◌∙◌, length, arith}
use Rattle.sleep_wheel.proofs.RebuildLaws.{rebuild_begins, rebuild_more}
use Rattle.sleep_wheel.proofs.alarms.rebuild.Goals as goal

pub loop-key-init : goal.loop-key-init
loop-key-init c =
    let left = c.into_iter-key-iterator.ensures.into_iter_gives ∙ c.iter-key-items.ensures.rest in
    record {
      can_next = tt;
      is_finite = tt;
      rebuilds = rebuild_begins _ _ _ c.clear.ensures.heap_order c.clear.ensures.items left;
      count = omega (arith, c.clear.ensures.len, c.iter-key-items.ensures.len, ap length c.into_iter-key-iterator.ensures.into_iter_gives);
      room = omega (arith, c.clear.ensures.capacity);
    }

pub loop-key-preserved : goal.loop-key-preserved
loop-key-preserved c = record {
  can_next = tt;
  is_finite = tt;
  rebuilds = rebuild_more _ _ _ _ _ _ _ c.loop-key.invariant.rebuilds c.in-Some.ensures.steps c.push_reserved.ensures.added c.push_reserved.ensures.heap;
  count = omega (arith, c.loop-key.invariant.count, ap length c.in-Some.ensures.steps, c.push_reserved.ensures.len);
  room = omega (arith, c.loop-key.invariant.room, c.push_reserved.ensures.capacity);
}

pub push_reserved-requires : goal.push_reserved-requires
push_reserved-requires c =
    omega (arith, c.loop-key.invariant.count, c.loop-key.invariant.room, ap length c.in-Some.ensures.steps, c.requires, c.args.alarms.now.data.ok.1)
