-- Files by name. A name and a file are lists of bytes.
use Rattle.std.specs.Prelude.{ℕ, Bool, List, [], ◌∷◌, Option, Some, None, take, if◌then◌else◌, nat_eq}
use Rattle.std.specs.Option.{option_map}
use Rattle.std.specs.Cmp.Lexicographic.{pointwise}
use Rattle.std.specs.Global.{Vec}

abbrev pub Files : Type 0
Files = List (List ℕ × List ℕ)

-- whether two names are one
abbrev pub same_name : List ℕ → List ℕ → Bool
same_name a b = pointwise nat_eq a b

-- the first file of that name
abbrev pub file_named : List ℕ → Files → Option (List ℕ)
file_named name [] = None
file_named name (file ∷ files) = if same_name file.0 name then Some file.1 else file_named name files

-- the first bytes of a file, at most so many
abbrev pub first_bytes : ℕ → Option (List ℕ) → Option (List ℕ)
first_bytes most file = option_map (take most) file

-- what a read found, as bytes
abbrev pub found_bytes : Option (Vec ℕ) → Option (List ℕ)
found_bytes found = option_map (λ (v : Vec ℕ). v.items) found
