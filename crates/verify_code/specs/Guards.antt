-- The rows of an exception table, some of them taken together.
use Rattle.std.specs.Prelude.{◌≡◌, ℕ, ◌≤◌, Bool, not, List, [], ◌∷◌, Option, ◌||◌}
use Rattle.std.specs.List.{list_all}
use Rattle.std.specs.Option.{option_map_or}
use Rattle.class_model.specs.declared.attribute.Row.{Row}
use Rattle.verify_types.specs.Calls.{covers}
use Rattle.verify_types.specs.Environment.{Handler}
use Rattle.verify_code.specs.declared.guards.Guard.{Guard}

abbrev pub guard_in : Guard → Handler
guard_in g = record { row = g.row; catch = g.catch }

abbrev pub opened : Option Guard → List Handler
opened last = option_map_or (λ (g : Guard). guard_in g ∷ []) last []

-- whether a row asks nothing at a pc, or its handler with what it catches passes a test
abbrev pub asks : ℕ → (ℕ → Option ℕ → Bool) → Handler → Bool
asks pc test h = not (covers pc h) || test h.row.handler h.catch

-- these ask of a handler what those do, at each pc
pub record AskAlike (hs ks : List Handler) : Type 0 where
  pub same : (pc : ℕ) (test : ℕ → Option ℕ → Bool) → list_all (asks pc test) hs ≡ list_all (asks pc test) ks

-- the ranges of two rows meet
pub record Meet (a b : Row) : Type 0 where
  pub first : a.start ≤ b.end
  pub second : b.start ≤ a.end

-- where a row starts
abbrev pub start_of : Guard → ℕ
start_of g = g.row.start
