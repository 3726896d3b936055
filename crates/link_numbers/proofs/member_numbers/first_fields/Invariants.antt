use Rattle.std.proofs.Common.{◌≡◌}
use Rattle.link_rules.specs.Members.{fields_before}
use Rattle.link_resolution.specs.Tables.{tabulate}
use Rattle.link_numbers.proofs.member_numbers.first_fields.Given as goal

abbrev pub invariant-loop-file : goal.invariant-loop-file
invariant-loop-file l =
    (l.firsts.items ≡ tabulate (fields_before l.files) l.file-index) × (l.next ≡ fields_before l.files l.file-index)
