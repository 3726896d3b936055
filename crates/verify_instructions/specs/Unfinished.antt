-- Local variables whose types are those of objects that aren't initialized, by their slots.
use Rattle.std.specs.Prelude.{◌≡◌, ℕ, Bool, true, false, not, List, [], ◌∷◌, ◌++◌, get_or, slice_set, ◌==◌, ◌&&◌, if◌then◌else◌}
use Rattle.std.specs.List.{list_any}
use Rattle.stack_maps.specs.declared.types.VType.{VType}
use Rattle.stack_maps.specs.declared.types.VType.TheVariants as types

-- whether a type is that of an object that isn't initialized
abbrev pub is_unfinished : VType → Bool
is_unfinished types.UninitThis = true
is_unfinished (types.Uninit pc) = true
is_unfinished t = false

-- the type of a local variable, that of an unset one where there is none of the number
abbrev pub type_at : List VType → ℕ → VType
type_at locals slot = get_or locals slot types.Top

abbrev pub is_listed : List ℕ → ℕ → Bool
is_listed slots slot = list_any (λ n. n == slot) slots

-- each slot of an uninitialized object is among these
pub record AreListed (slots : List ℕ) (locals : List VType) : Type 0 where
  pub all : (slot : ℕ) → is_unfinished (type_at locals slot) ≡ true → is_listed slots slot ≡ true

-- these and a slot whose type becomes another
abbrev pub listing : ℕ → VType → VType → List ℕ → List ℕ
listing slot was t slots = if is_unfinished t && not (is_unfinished was) then slots ++ slot ∷ [] else slots

-- the slot has another type where its own passes a test
abbrev pub replaced_at : (VType → Bool) → VType → ℕ → List VType → List VType
replaced_at test t slot locals = if test (type_at locals slot) then slice_set locals slot t else locals

abbrev pub replaced_among : (VType → Bool) → VType → List ℕ → List VType → List VType
replaced_among test t [] locals = locals
replaced_among test t (slot ∷ slots) locals = replaced_among test t slots (replaced_at test t slot locals)
