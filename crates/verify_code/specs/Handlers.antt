-- An exception handler, part by part.
use Rattle.std.specs.Prelude.{◌≡◌, ℕ, Bool, true, false, IfSome, not, List, [], ◌∷◌, Option, Some, None, min, nat_le, nat_lt, ◌&&◌, ◌||◌, if◌then◌else◌}
use Rattle.std.specs.Option.{option_and_then, option_map_or}
use Rattle.class_model.specs.declared.attribute.Row.{Row}
use Rattle.stack_maps.specs.declared.types.VType.{VType}
use Rattle.verify_types.specs.Assignability.{assignable}
use Rattle.verify_types.specs.ClassTypes.{throwable_type}
use Rattle.verify_types.specs.TypeStates.{TypeState, with_stack}
use Rattle.verify_types.specs.Environment.{Handler, Environment, map_at}
use Rattle.verify_code.specs.declared.guards.Caught.{Caught}
use Rattle.verify_code.specs.declared.satisfied.JudgedTwice.{JudgedTwice}
use Rattle.verify_types.specs.Calls.{covers}
use Rattle.verify_types.specs.Handlers.{caught_type, fits_frame, is_satisfied}

-- a row of the exception table, and what it catches
abbrev pub handler : Row → Option ℕ → Handler
handler row catch = record { row = row; catch = catch }

-- whether the state at a handler fits a frame of the map at its pc
abbrev pub caught_fits : Environment → TypeState → VType → ℕ → Bool
caught_fits env s caught pc = option_map_or (fits_frame env (with_stack s (caught ∷ []))) (map_at env pc) false

-- whether a pc lies in the range of a row
abbrev pub row_covers : ℕ → Row → Bool
row_covers pc r = nat_le r.start pc && nat_lt pc r.end

-- whether the pcs at which two states satisfy the handlers lie in the range of a row
abbrev pub covers_twice : JudgedTwice → Row → Bool
covers_twice t r = row_covers t.one.at r && row_covers t.other.at r

-- whether a handler asks nothing at a pc, or is satisfied: it asks nothing where its row covers two other pcs as well, if there are
-- such
abbrev pub keeps_more : Environment → Option JudgedTwice → ℕ → TypeState → Handler → Bool
keeps_more env twice pc s h = not (covers pc h) || (option_map_or (λ t. covers_twice t h.row) twice false || is_satisfied env s h)

-- the lower of two pcs at which states satisfy the handlers, if both lie at this pc or before it
abbrev pub lower_of : Option JudgedTwice → ℕ → Option ℕ
lower_of twice pc = option_and_then (λ t. if nat_le t.one.at pc && nat_le t.other.at pc then Some (min t.one.at t.other.at) else None) twice

-- whether the handler at this pc, which catches this, is satisfied
abbrev pub catches_at : Environment → TypeState → ℕ → Option ℕ → Bool
catches_at env s pc catch =
    assignable env.world (caught_type env.world catch) (throwable_type env.world)
    && caught_fits env s (caught_type env.world catch) pc

-- so is this one, if one is known
abbrev pub IsCatcher : Environment → TypeState → Option Caught → Type 0
IsCatcher env s last = IfSome last (λ (c : Caught). catches_at env s c.handler c.catch ≡ true)

-- a row asks nothing more, and this handler is known to be satisfied
pub record IsRowJudged (env : Environment) (twice : Option JudgedTwice) (pc : ℕ) (s : TypeState) (h : Handler) (last : Option Caught) : Type 0 where
  pub keeps : keeps_more env twice pc s h ≡ true
  pub caught : IsCatcher env s last

-- the start of a row, where it lies after this pc and before the next
abbrev pub nearer : ℕ → ℕ → ℕ → ℕ
nearer pc next start = if nat_lt pc start && nat_lt start next then start else next

-- the first pc after this one at which one of the rows starts, or else this other
abbrev pub next_start : ℕ → ℕ → List Handler → ℕ
next_start pc next [] = next
next_start pc next (h ∷ hs) = next_start pc (nearer pc next h.row.start) hs
