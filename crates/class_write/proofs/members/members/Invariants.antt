use Rattle.std.proofs.Common.{◌≡◌, ◌++◌, length, take}
use Rattle.std.specs.List.{flat_map}
use Rattle.class_grammar.specs.Layout.{member, u2}
use Rattle.class_write.proofs.members.members.Given as goal

abbrev pub invariant-loop-one : goal.invariant-loop-one
invariant-loop-one l = l.out.items ≡ l.fn.out.items ++ u2 (length l.table) ++ flat_map member (take l.one-index l.table)
