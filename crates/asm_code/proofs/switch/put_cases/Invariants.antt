use Rattle.std.proofs.Common.{◌≡◌, drop}
use Rattle.asm_code.specs.Encoding.{cases}
use Rattle.asm_code.specs.Places.{place_of}
use Rattle.asm_code.proofs.switch.put_cases.Given as goal

abbrev pub invariant-loop-case : goal.invariant-loop-case
invariant-loop-case l =
    cases (place_of l.labels) l.pc l.cases l.initial.code.items ≡ cases (place_of l.labels) l.pc (drop l.case-index l.cases) l.code.items
