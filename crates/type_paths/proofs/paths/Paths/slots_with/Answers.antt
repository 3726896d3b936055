use Rattle.std.proofs.Common.{sym, ◌∙◌, arith}
use Rattle.type_paths.specs.Paths.{path}
use Rattle.type_paths.proofs.SlotLaws.{more_slots, no_count, no_item}
use Rattle.type_paths.proofs.paths.Paths.slots_with.Goals as goal

pub returns-in_default : goal.returns-in_default
returns-in_default c = no_item (path c.args.self.now c.args.n) c.args.item c.in_default.is

pub returns-in_default-slots : goal.returns-in_default-slots
returns-in_default-slots c = no_count (path c.args.self.now c.args.n) c.args.item (sym c.in_default-slots.is ∙ c.slots.ensures)

pub returns-in-Some-checked_add : goal.returns-in-Some-checked_add
returns-in-Some-checked_add c =
    let sum = c.in-Some-checked_add.ensures in
    more_slots (path c.args.self.now c.args.n) c.args.item c.in-Some.t c.in-Some-slots.slots c.in-Some-checked_add.all c.in-Some.is (sym c.in-Some-slots.is ∙ c.slots.ensures) (omega (arith, sum.1, c.width.ensures))
