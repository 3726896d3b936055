use Rattle.std.proofs.Common.{◌≡◌, ◌++◌, length, take}
use Rattle.std.specs.List.{flat_map}
use Rattle.class_grammar.specs.Layout.{constant, u2}
use Rattle.class_write.proofs.constants.pool.Given as goal

abbrev pub invariant-loop-entry : goal.invariant-loop-entry
invariant-loop-entry l = l.out.items ≡ l.fn.out.items ++ u2 (length l.entries) ++ flat_map constant (take l.entry-index l.entries)
