use Rattle.std.proofs.Common.{arith, refl}
use Rattle.monitors.proofs.RoomLaws.{Grows-same, room-kept, room-monitor}
use Rattle.monitors.proofs.monitors.Monitors.room.Goals as goal

pub invariant_of-self : goal.invariant_of-self
invariant_of-self c =
    let a = c.self.inside in
    room-kept a (record a { records = c.reserve.new.self }) c.self.invariant c.reserve.ensures.entries.2 c.reserve.ensures.entries.1
    (Grows-same a.vacant a.vacant a.pairs a.lists refl refl (omega arith) c.self.invariant.pairs c.self.invariant.capacity)

pub invariant_of-self-2 : goal.invariant_of-self-2
invariant_of-self-2 c =
    room-kept c.self.inside (record { records = c.reserve.new.self; vacant = c.add_pairs.new.vacant; pairs = c.add_pairs.new.pairs; lists = c.add_pairs.new.lists }) c.self.invariant c.reserve.ensures.entries.2 c.reserve.ensures.entries.1 c.add_pairs.ensures.grows

pub returns-clause-monitors : goal.returns-clause-monitors
returns-clause-monitors c =
    rw (← c.self.view_is) (room-monitor c.self.inside (record { records = c.reserve.new.self; vacant = c.add_pairs.new.vacant; pairs = c.add_pairs.new.pairs; lists = c.add_pairs.new.lists }) c.self.invariant c.reserve.ensures.entries.2 c.reserve.ensures.entries.1 c.add_pairs.ensures.grows)
