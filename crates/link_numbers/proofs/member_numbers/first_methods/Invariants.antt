use Rattle.std.proofs.Common.{◌≡◌}
use Rattle.link_rules.specs.Members.{methods_before}
use Rattle.link_resolution.specs.Tables.{tabulate}
use Rattle.link_numbers.proofs.member_numbers.first_methods.Given as goal

abbrev pub invariant-loop-file : goal.invariant-loop-file
invariant-loop-file l =
    (l.firsts.items ≡ tabulate (methods_before l.files) l.file-index) × (l.next ≡ methods_before l.files l.file-index)
