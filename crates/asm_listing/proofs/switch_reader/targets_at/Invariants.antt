use Rattle.std.proofs.Common.{◌-◌}
use Rattle.asm_listing.specs.Numbers.{repeat}
use Rattle.asm_listing.specs.Switches.{one_target, no_targets}
use Rattle.asm_listing.proofs.RepeatLaws.{GoesOnBy}
use Rattle.asm_listing.proofs.switch_reader.targets_at.Given as goal

abbrev pub invariant-loop : goal.invariant-loop
invariant-loop l = GoesOnBy (one_target l.pc) l.targets (l.count - l.counter) l.rest (repeat (one_target l.pc) l.count (no_targets l.default) l.bytes)
