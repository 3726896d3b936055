use Rattle.std.proofs.Common.{◌≡◌, ◌++◌, take}
use Rattle.std.specs.List.{flat_map}
use Rattle.startup.specs.FirstStatics.{static_value}
use Rattle.startup.proofs.first_statics.add_statics.Given as goal

abbrev pub invariant-loop-field : goal.invariant-loop-field
invariant-loop-field l = l.statics.items ≡ l.fn.statics.items ++ flat_map (static_value l.strings l.file) (take l.field-index l.file.fields)
