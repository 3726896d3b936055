use Rattle.std.proofs.Common.{◌+◌, ◌-◌, ◌%◌, ◌^◌, ◌∙◌, arith}
use Rattle.turn_lock.proofs.TurnLaws.{stays}
use Rattle.turn_lock.proofs.waiting.sleep.Goals as goal

pub fetch_add-requires : goal.fetch_add-requires
fetch_add-requires g c = (
  c.requires.lock,
  (let words = c.requires.table.words in omega arith),
  stays g.V.Kept.history g.V.Kept.setting c.args.table.now.key.initial.value c.args.table.now.key.seats c.args.table.now.table_id.slots c.args.place.now.id c.args.place.now.me (λ n. (n + 1) % 2 ^ 64) 1,
)

pub fetch_sub-requires : goal.fetch_sub-requires
fetch_sub-requires g c = (
  c.fetch_add.ensures.0 ∙ c.requires.lock,
  (let words = c.requires.table.words in omega arith),
  stays g.V.Kept.history g.V.Kept.setting c.args.table.now.key.initial.value c.args.table.now.key.seats c.args.table.now.table_id.slots c.fetch_add.new.seat.id c.fetch_add.new.seat.me (λ n. (n + (2 ^ 64 - 1)) % 2 ^ 64) 1,
)
