use Rattle.std.proofs.Common.{◌-◌, length}
use Rattle.asm_listing.specs.Numbers.{repeat}
use Rattle.asm_listing.specs.Code.{one_line, seen, nothing}
use Rattle.asm_listing.proofs.RepeatLaws.{GoesOnBy}
use Rattle.asm_listing.proofs.code.all_lines.Given as goal

abbrev pub invariant-loop : goal.invariant-loop
invariant-loop l = GoesOnBy (one_line l.pool (length l.code)) (seen l.found) ((length l.code) - l.counter) l.rest (repeat (one_line l.pool (length l.code)) (length l.code) nothing l.code)
