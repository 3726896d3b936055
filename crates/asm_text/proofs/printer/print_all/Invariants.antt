use Rattle.std.proofs.Common.{◌≡◌, ◌++◌, take}
use Rattle.asm_text.specs.Words.{spaced}
use Rattle.asm_text.proofs.printer.print_all.Given as goal

abbrev pub invariant-loop-word : goal.invariant-loop-word
invariant-loop-word l = l.text.items ≡ l.initial.text.items ++ spaced (take l.word-index l.words)
