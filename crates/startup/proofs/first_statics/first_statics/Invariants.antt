use Rattle.std.proofs.Common.{◌≡◌, take}
use Rattle.std.specs.List.{flat_map}
use Rattle.startup.specs.FirstStatics.{static_values}
use Rattle.startup.proofs.first_statics.first_statics.Given as goal

abbrev pub invariant-loop-file : goal.invariant-loop-file
invariant-loop-file l = l.statics.items ≡ flat_map (static_values l.strings) (take l.file-index l.file-items)
