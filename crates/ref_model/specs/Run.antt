-- Histories: what entries make of the state in which a program begins.
use Rattle.std.specs.Prelude.{ℕ, zero, suc, List, [], ◌∷◌, Option, Some, None}
use Rattle.history.specs.declared.entry.Entry.{Entry}
use Rattle.history.specs.declared.entry.What.{What}
use Rattle.history.specs.declared.entry.What.TheVariants.{Mount, Unmount, Step, Clock}
use Rattle.items.specs.Options.{◌>>=◌}
use Rattle.ref_model.specs.Setting.{Setting}
use Rattle.ref_model.specs.State.{State}
use Rattle.ref_model.specs.Opening.{opening}
use Rattle.ref_model.specs.Step.{step}
pub use Rattle.ref_model.specs.Waiting.{at_time}

-- The machine after a history. With several carriers, what they have comes beside the state.
pub record Outcome : Type 0 where
  pub state : State

-- steps of one thread, none of which picks a thread
abbrev pub steps : Setting → ℕ → State → ℕ → Option State
steps p zero r t = Some r
steps p (suc n) r t = steps p n r t >>= λ q. step p q t None

-- so many steps of one thread, at least one, of which the last may pick a thread
abbrev pub after_steps : Setting → State → ℕ → ℕ → Option ℕ → Option State
after_steps p r t zero pick = None
after_steps p r t (suc n) pick = steps p n r t >>= λ q. step p q t pick

abbrev pub with_state : Outcome → State → Outcome
with_state o r = record o { state = r }

-- What one entry makes of the machine. Threads aren't mounted yet: thread 0 is on carrier 0 from the start.
abbrev pub outcome_after : Setting → Outcome → What → Option Outcome
outcome_after p o (Mount t) = None
outcome_after p o (Unmount t) = None
outcome_after p o (Step t n pick) = after_steps p o.state t n pick >>= λ r. Some (with_state o r)
outcome_after p o (Clock now) = at_time o.state now >>= λ r. Some (with_state o r)

abbrev pub replay : Setting → List Entry → Outcome → Option Outcome
replay p [] o = Some o
replay p (e ∷ es) o = outcome_after p o e.what >>= λ next. replay p es next

abbrev pub first_outcome : State → Outcome
first_outcome r = record { state = r }

-- the state after these entries
abbrev pub run : Setting → List Entry → Option State
run p entries = opening p >>= λ r. replay p entries (first_outcome r) >>= λ o. Some o.state
