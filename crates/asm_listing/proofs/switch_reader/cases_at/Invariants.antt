use Rattle.std.proofs.Common.{◌-◌}
use Rattle.asm_listing.specs.Numbers.{repeat}
use Rattle.asm_listing.specs.Switches.{one_case, no_cases}
use Rattle.asm_listing.proofs.RepeatLaws.{GoesOnBy}
use Rattle.asm_listing.proofs.switch_reader.cases_at.Given as goal

abbrev pub invariant-loop : goal.invariant-loop
invariant-loop l = GoesOnBy (one_case l.pc) l.cases (l.count - l.counter) l.rest (repeat (one_case l.pc) l.count (no_cases l.default) l.bytes)
