use Rattle.std.proofs.Common.{◌≡◌, ◌++◌, length, take}
use Rattle.std.specs.List.{flat_map}
use Rattle.class_grammar.specs.Layout.{u2}
use Rattle.class_write.proofs.writer.indices.Given as goal

abbrev pub invariant-loop-index : goal.invariant-loop-index
invariant-loop-index l = l.out.items ≡ l.fn.out.items ++ u2 (length l.table) ++ flat_map u2 (take l.index-index l.table)
