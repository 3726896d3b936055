use Rattle.std.proofs.Common.{◌-◌, length}
use Rattle.asm_text.specs.Parsing.{name_at, many}
use Rattle.asm_text.proofs.ManyLaws.{SoFar}
use Rattle.asm_text.proofs.lists.names_at.Given as goal

abbrev pub invariant-loop : goal.invariant-loop
invariant-loop l = SoFar name_at (many name_at (length l.words) l.words) (l.end - l.counter) l.names l.rest
