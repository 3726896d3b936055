use Rattle.std.proofs.Common.{◌≡◌, drop}
use Rattle.asm_code.specs.Encoding.{are_above}
use Rattle.asm_code.proofs.switch.are_above.Given as goal

abbrev pub invariant-loop-case : goal.invariant-loop-case
invariant-loop-case l = are_above l.fn.floor l.cases ≡ are_above l.floor (drop l.case-index l.cases)
