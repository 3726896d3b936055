use Rattle.std.proofs.Common.{◌-◌, length}
use Rattle.asm_text.specs.Parsing.{flag_at, many}
use Rattle.asm_text.proofs.ManyLaws.{SoFar}
use Rattle.asm_text.proofs.lists.flags_at.Given as goal

abbrev pub invariant-loop : goal.invariant-loop
invariant-loop l = SoFar (flag_at l.declared) (many (flag_at l.declared) (length l.words) l.words) (l.end - l.counter) l.flags l.rest
