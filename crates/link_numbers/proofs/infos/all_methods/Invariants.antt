use Rattle.std.proofs.Common.{◌≡◌, ◌++◌, drop}
use Rattle.std.specs.List.{flat_map, enumerate_from}
use Rattle.link_model.specs.Infos.{methods_in, methods_of}
use Rattle.link_numbers.proofs.infos.all_methods.Given as goal

abbrev pub invariant-loop-class : goal.invariant-loop-class
invariant-loop-class l = methods_of l.world ≡ l.methods.items ++ flat_map methods_in (enumerate_from l.class (drop l.class l.world.classes))
