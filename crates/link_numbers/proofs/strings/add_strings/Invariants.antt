use Rattle.std.proofs.Common.{◌≡◌, drop}
use Rattle.std.specs.List.{flat_map, fold}
use Rattle.link_model.specs.Numbering.{with_name}
use Rattle.link_model.specs.Strings.{text_in}
use Rattle.link_numbers.proofs.strings.add_strings.Given as goal

abbrev pub invariant-loop-constant : goal.invariant-loop-constant
invariant-loop-constant l = fold with_name l.fn.strings (flat_map (text_in l.file.pool) l.file.pool) ≡ fold with_name l.strings (flat_map (text_in l.file.pool) (drop l.constant-index l.file.pool))
