use Rattle.std.proofs.Common.{◌≡◌, ◌++◌, take, map}
use Rattle.asm_text.specs.Words.{spaced}
use Rattle.asm_text.specs.Mnemonics.{flag_word}
use Rattle.asm_text.proofs.printer.print_flags.Given as goal

abbrev pub invariant-loop-flag : goal.invariant-loop-flag
invariant-loop-flag l = l.text.items ≡ l.initial.text.items ++ spaced (map flag_word (take l.flag-index l.flags))
