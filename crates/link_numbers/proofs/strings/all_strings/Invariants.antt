use Rattle.std.proofs.Common.{◌≡◌, drop}
use Rattle.std.specs.List.{flat_map, fold}
use Rattle.link_model.specs.Numbering.{with_name}
use Rattle.link_model.specs.Strings.{texts_in, strings_of}
use Rattle.link_numbers.proofs.strings.all_strings.Given as goal

abbrev pub invariant-loop-file : goal.invariant-loop-file
invariant-loop-file l = strings_of l.world ≡ fold with_name l.strings (flat_map texts_in (drop l.file-index l.world.classes))
