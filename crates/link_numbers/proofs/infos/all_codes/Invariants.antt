use Rattle.std.proofs.Common.{◌≡◌, ◌++◌, drop}
use Rattle.std.specs.List.{flat_map}
use Rattle.link_model.specs.Infos.{codes_in, codes_of}
use Rattle.link_numbers.proofs.infos.all_codes.Given as goal

abbrev pub invariant-loop-file : goal.invariant-loop-file
invariant-loop-file l = codes_of l.world ≡ l.codes ++ flat_map codes_in (drop l.file-index l.world.classes)
