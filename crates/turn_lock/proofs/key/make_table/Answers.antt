use Rattle.std.proofs.Common.{Some, ap, sym}
use Rattle.turn_lock.proofs.SeatLaws.{one_slot, opens_with}
use Rattle.turn_lock.proofs.key.make_table.Goals as goal

pub new-requires : goal.new-requires
new-requires g c =
    opens_with g.V.Kept.history g.V.Kept.setting c.of.result.value c.args.seats c.args.value c.in_ok-slots.slots.items c.push_reserved.new.self.items
    (ap g.V.Kept.setting (sym c.of.ensures)) c.requires c.in_ok-slots.ensures.items c.push_reserved.ensures.items

pub returns-in-Ok-clause-table : goal.returns-in-Ok-clause-table
returns-in-Ok-clause-table g c =
    let made = c.in-Ok.ensures.ok in
    record { words = made.0; slots = one_slot c.in_ok-slots.slots.items c.push_reserved.new.self.items (Some c.args.value) _ made.1 c.in_ok-slots.ensures.items c.push_reserved.ensures.items }
