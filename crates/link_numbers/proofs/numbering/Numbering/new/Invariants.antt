use Rattle.std.proofs.Common.{◌≡◌, drop}
use Rattle.std.specs.List.{flat_map, fold}
use Rattle.link_model.specs.Infos.{codes_in}
use Rattle.link_model.specs.Numbering.{with_kind, kinds_in_file, numbering_of}
use Rattle.link_numbers.proofs.numbering.Numbering.new.Given as goal

abbrev pub invariant-loop-file : goal.invariant-loop-file
invariant-loop-file l =
    (numbering_of l.world ≡ fold with_kind l.numbering (flat_map kinds_in_file (drop l.file-index l.files)))
    × (l.rest ≡ flat_map codes_in (drop l.file-index l.files))
