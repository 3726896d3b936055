use Rattle.std.proofs.Common.{◌≡◌, map, take}
use Rattle.link_rules.specs.Program.{own_name}
use Rattle.link_numbers.proofs.numbering.first_numbers.Given as goal

abbrev pub invariant-loop-file : goal.invariant-loop-file
invariant-loop-file l = l.names ≡ map own_name (take l.file-index l.files)
