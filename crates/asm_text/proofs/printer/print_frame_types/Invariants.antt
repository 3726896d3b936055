use Rattle.std.proofs.Common.{◌≡◌, ◌++◌, take}
use Rattle.std.specs.List.{flat_map}
use Rattle.asm_text.specs.Words.{spaced}
use Rattle.asm_text.specs.LineText.{frame_type_words}
use Rattle.asm_text.proofs.printer.print_frame_types.Given as goal

abbrev pub invariant-loop-frame_type : goal.invariant-loop-frame_type
invariant-loop-frame_type l = l.text.items ≡ l.initial.text.items ++ spaced (flat_map frame_type_words (take l.frame_type-index l.types))
