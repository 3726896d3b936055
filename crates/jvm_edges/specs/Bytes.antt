-- The bytes that a sink took.
use Rattle.std.specs.Prelude.{◌≡◌, ℕ, List, ◌++◌, Option}
use Rattle.std.specs.Option.{option_map}

-- after is before with this piece at its end, where the bytes are known
abbrev pub Appends : Option (List ℕ) → List ℕ → Option (List ℕ) → Type 0
Appends before piece after = after ≡ option_map (λ (bytes : List ℕ). bytes ++ piece) before
