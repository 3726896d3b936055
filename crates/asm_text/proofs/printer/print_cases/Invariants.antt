use Rattle.std.proofs.Common.{◌≡◌, ◌++◌, take}
use Rattle.std.specs.List.{flat_map}
use Rattle.asm_text.specs.Words.{spaced}
use Rattle.asm_text.specs.LineText.{case_words}
use Rattle.asm_text.proofs.printer.print_cases.Given as goal

abbrev pub invariant-loop-case : goal.invariant-loop-case
invariant-loop-case l = l.text.items ≡ l.initial.text.items ++ spaced (flat_map case_words (take l.case-index l.cases))
