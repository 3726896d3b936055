-- The places of labels.
use Rattle.std.specs.Prelude.{◌≡◌, ℕ, List, Option, Some, if◌then◌else◌}
use Rattle.std.specs.Ordering.{nat_cmp}
use Rattle.std.specs.Str.{bytes_eq}
use Rattle.std.specs.Cmp.Lexicographic.{slice_cmp}
use Rattle.std.specs.BTreeMap.{get_by}
use Rattle.asm_code.specs.declared.labels.Labels.{Labels}

-- the place of a label, if it has one
abbrev pub place_of : Labels → List ℕ → Option ℕ
place_of l label = get_by (λ k. slice_cmp nat_cmp label k.items) l.places

-- the new labels have this one at the pc, and the others where they were
abbrev pub Places : Labels → List ℕ → ℕ → Labels → Type 0
Places old label pc new =
    (other : List ℕ) → place_of new other ≡ (if bytes_eq label other then Some pc else place_of old other)
