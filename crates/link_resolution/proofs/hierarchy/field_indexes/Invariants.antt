use Rattle.std.proofs.Common.{◌≡◌, vec_len}
use Rattle.link_resolution.specs.MemberTables.{AllIndexed}
use Rattle.link_resolution.proofs.hierarchy.field_indexes.Given as goal

abbrev pub invariant-loop-file : goal.invariant-loop-file
invariant-loop-file l = AllIndexed (λ f. f.fields) l.files l.indexes.items × (vec_len l.indexes ≡ l.file-index)
