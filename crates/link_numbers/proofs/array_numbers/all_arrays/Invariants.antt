use Rattle.std.proofs.Common.{◌≡◌, ◌++◌, ℕ, drop}
use Rattle.std.specs.List.{flat_map, enumerate_from}
use Rattle.link_model.specs.Numbering.{arrays_of, arrays_of_base, base_at}
use Rattle.link_numbers.proofs.array_numbers.all_arrays.Given as goal

abbrev pub invariant-loop-index : goal.invariant-loop-index
invariant-loop-index l = arrays_of l.depths ≡ l.arrays.items ++ flat_map (λ (x : ℕ × ℕ). arrays_of_base (base_at x.0) x.1) (enumerate_from l.index (drop l.index l.depths))
