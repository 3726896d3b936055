-- Tables of the places of fields, by the fields of the objects of each class.
use Rattle.std.specs.Prelude.{ℕ, Bool, false, List, Option, Some, None, cond, filter, length, nat_lt, position, slice_get, take, ◌==◌}
use Rattle.std.specs.Option.{option_map_or, option_and_then}
use Rattle.link_model.specs.declared.members.FieldInfo.{FieldInfo}
use Rattle.link_model.specs.Fields.{declares, is_static_field}
use Rattle.link_resolution.specs.Tables.{row_at}

-- the place of a field, if it is static: the number of static fields before it
abbrev pub if_static : FieldInfo → ℕ → Option ℕ
if_static f before = cond (is_static_field f) (Some before) None

-- the place of the field of a number, where it is static
abbrev pub static_at : List FieldInfo → ℕ → Option ℕ
static_at fields n =
    option_and_then (λ f. if_static f (length (filter is_static_field (take n fields)))) (slice_get fields n)

-- whether the field of a number is an instance field that the class itself declares
abbrev pub is_own : List FieldInfo → ℕ → ℕ → Bool
is_own fields class n = option_map_or (declares class) (slice_get fields n) false

-- the place of a field by the rows of the classes: a static one's among all static fields, another's in the row of its class
abbrev pub place_in : List (List ℕ) → FieldInfo → ℕ → ℕ → Option ℕ
place_in rows f before n = cond (is_static_field f) (Some before) (position (λ m. m == n) (row_at rows f.class))

abbrev pub place_by : List FieldInfo → List (List ℕ) → ℕ → Option ℕ
place_by fields rows n =
    option_and_then (λ f. place_in rows f (length (filter is_static_field (take n fields))) n) (slice_get fields n)

-- the same where only the instance fields of the first c classes have a place
abbrev pub place_in_first : ℕ → List (List ℕ) → FieldInfo → ℕ → ℕ → Option ℕ
place_in_first c rows f before n =
    cond (is_static_field f) (Some before) (cond (nat_lt f.class c) (position (λ m. m == n) (row_at rows f.class)) None)

abbrev pub place_by_first : ℕ → List FieldInfo → List (List ℕ) → ℕ → Option ℕ
place_by_first c fields rows n =
    option_and_then (λ f. place_in_first c rows f (length (filter is_static_field (take n fields))) n) (slice_get fields n)
