use Rattle.std.proofs.Common.{◌-◌, length}
use Rattle.asm_text.specs.Parsing.{case_at, many}
use Rattle.asm_text.proofs.ManyLaws.{SoFar}
use Rattle.asm_text.proofs.lists.cases_at.Given as goal

abbrev pub invariant-loop : goal.invariant-loop
invariant-loop l = SoFar case_at (many case_at (length l.words) l.words) (l.end - l.counter) l.cases l.rest
