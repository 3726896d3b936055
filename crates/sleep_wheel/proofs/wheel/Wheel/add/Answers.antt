use Rattle.sleep_wheel.proofs.AlarmLaws.{covers_added}
use Rattle.sleep_wheel.proofs.wheel.Wheel.add.Goals as goal

pub drop_stale-requires : goal.drop_stale-requires
drop_stale-requires c = covers_added _ _ _ _ _ _ c.self.invariant.covers c.insert_reserved-key.ensures.updates c.push_reserved.ensures.added (c.push_reserved.ensures.heap c.self.invariant.covers.heap)
