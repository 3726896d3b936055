use Rattle.std.proofs.Common.{arith, ◌+◌}
use Rattle.monitors.proofs.RoomLaws.{Grows-one, Grows-same, Grows-trans}
use Rattle.monitors.proofs.records.add_pair.Goals as goal

pub returns-clause-grows : goal.returns-clause-grows
returns-clause-grows c =
    let n = c.args.pairs.now in
    let lists = c.args.lists.now in
    Grows-trans c.args.vacant.now c.reserve.new.self c.push_reserved.new.self n n (n + 1) lists lists c.add_lists.new.self
    (Grows-same c.args.vacant.now c.reserve.new.self n lists c.reserve.ensures.items c.reserve.ensures.len c.reserve.ensures.capacity c.requires.pairs c.requires.capacity)
    (Grows-one c.reserve.new.self c.push_reserved.new.self n lists c.add_lists.new.self c.push_reserved.ensures.items c.push_reserved.ensures.len (omega (arith, c.push_reserved.ensures.capacity, c.in_ok-reserve.ensures.ok, c.len.ensures, c.len-2.ensures, c.max-most.ensures)) c.requires.pairs c.in_ok-add_lists.ensures.ok)
