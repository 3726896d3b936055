use Rattle.std.proofs.Common.{◌-◌}
use Rattle.asm_listing.specs.Numbers.{repeat}
use Rattle.asm_listing.specs.Frames.{one_type, seen_types, no_types}
use Rattle.asm_listing.proofs.RepeatLaws.{GoesOnBy}
use Rattle.asm_listing.proofs.frames.counted_types.Given as goal

abbrev pub invariant-loop : goal.invariant-loop
invariant-loop l = GoesOnBy (one_type l.pool) (seen_types l.types) (l.count - l.counter) l.rest (repeat (one_type l.pool) l.count no_types l.bytes)
