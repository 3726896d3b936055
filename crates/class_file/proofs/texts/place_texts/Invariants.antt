use Rattle.std.proofs.Common.{◌≡◌, ◌+◌, length, drop}
use Rattle.std.specs.List.{sum_by, AllByRecursion}
use Rattle.class_file.specs.Texts.{with_texts, len_of, IsWithin}
use Rattle.class_file.proofs.texts.place_texts.Given as goal

abbrev pub invariant-loop-left : goal.invariant-loop-left
invariant-loop-left l = record {
  placed : with_texts l.left (drop l.start l.fn.units.items) l.constants.items ≡ with_texts l.fn.marks l.fn.units.items l.fn.constants.items;
  total : l.start + sum_by len_of l.left ≡ length l.fn.units.items;
  within : AllByRecursion (IsWithin (length l.constants.items)) l.left;
}

abbrev pub decreases-loop-left : goal.decreases-loop-left
decreases-loop-left l = length l.left
