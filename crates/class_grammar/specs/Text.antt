-- Texts, each the list of its units of UTF-16.
use Rattle.std.specs.Prelude.{ℕ, Bool, List, nat_eq, ◌==◌}
use Rattle.std.specs.List.{list_any}
use Rattle.std.specs.Cmp.Lexicographic.{pointwise}

-- whether two texts are the same
abbrev pub same_text : List ℕ → List ℕ → Bool
same_text a b = pointwise nat_eq a b

-- whether a unit is one of these characters
abbrev pub is_one_of : List ℕ → ℕ → Bool
is_one_of chars u = list_any (λ c. u == c) chars
