use Rattle.std.proofs.Common.{◌≡◌, drop}
use Rattle.asm_class.specs.Names.{are_sound_types}
use Rattle.asm_class.proofs.names.are_sound_types.Given as goal

abbrev pub invariant-loop-frame_type : goal.invariant-loop-frame_type
invariant-loop-frame_type l = are_sound_types l.types ≡ are_sound_types (drop l.frame_type-index l.types)
