-- Sets of pcs, each as ranges.
use Rattle.std.specs.Prelude.{◌≡◌, ℕ, Bool, true, List, [], ◌∷◌, Option, None, Some, nat_le, nat_lt, ◌&&◌}
use Rattle.std.specs.List.{list_any}
use Rattle.class_model.specs.declared.attribute.Row.{Row}
use Rattle.verify_frames.specs.declared.pc_sets.Span.{Span}

-- the pcs in the range of a row
abbrev pub row_span : Row → Span
row_span r = record { from = r.start; until = r.end }

-- whether a range has pcs in common with those from one on and before another
abbrev pub meets : Span → ℕ → ℕ → Bool
meets s from until = nat_lt s.from until && nat_lt from s.until

-- whether some of these ranges has
abbrev pub meet : List Span → ℕ → ℕ → Bool
meet spans from until = list_any (λ s. meets s from until) spans

-- whether a range lies in another
abbrev pub is_within : Span → Span → Bool
is_within s outer = nat_le outer.from s.from && nat_le s.until outer.until

-- these ranges have pcs in common with whatever the others have
pub record Covers (outer spans : List Span) : Type 0 where
  pub meet : (from until : ℕ) → meet spans from until ≡ true → meet outer from until ≡ true

-- What was found is a part of these ranges that covers one.
abbrev pub IsSuffix : Span → List Span → Option (List Span) → Type 0
IsSuffix span outer None = Unit {0}
IsSuffix span outer (Some rest) = Covers outer rest × Covers rest (span ∷ [])
