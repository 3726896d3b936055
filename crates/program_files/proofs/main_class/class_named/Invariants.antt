use Rattle.std.proofs.Common.{◌≡◌}
use Rattle.std.specs.List.{flat_map}
use Rattle.program_files.specs.MainClass.{name_units}
use Rattle.program_files.proofs.main_class.class_named.Given as goal

abbrev pub invariant-loop-c : goal.invariant-loop-c
invariant-loop-c l = l.units.items ≡ flat_map name_units l.yielded
