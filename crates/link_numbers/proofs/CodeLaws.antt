-- Codes that are all decoded.
use Rattle.std.proofs.Common.{◌≡◌, ℕ, zero, suc, List, [], ◌∷◌, ◌++◌, Option, Some, subst}
use Rattle.std.specs.Prelude.{slice_get}
use Rattle.std.specs.List.{AllByRecursion}
use Rattle.link_model.specs.declared.members.MethodCode.{MethodCode}
use Rattle.link_numbers.specs.Codes.{IsWhole}

pub one_more : (codes : List (Option MethodCode)) (code : Option MethodCode) → AllByRecursion IsWhole codes → IsWhole code → AllByRecursion IsWhole (codes ++ code ∷ [])
one_more [] code all whole = (whole, tt)
one_more (x ∷ codes) code all whole = (all.0, one_more codes code all.1 whole)

pub one_of : (codes : List (Option MethodCode)) (n : ℕ) (code : Option MethodCode) → AllByRecursion IsWhole codes → slice_get codes n ≡ Some code → IsWhole code
one_of [] n code all e = absurd cc
one_of (x ∷ codes) zero code all e = let same : x ≡ code = cc in subst IsWhole same all.0
one_of (x ∷ codes) (suc n) code all e = one_of codes n code all.1 e
