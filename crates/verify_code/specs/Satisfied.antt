-- Where the exception handlers of a state are satisfied, as other states show.
use Rattle.std.specs.Prelude.{◌≡◌, ℕ, true, Some}
use Rattle.std.specs.List.{All}
use Rattle.verify_types.specs.Environment.{Environment, Handler}
use Rattle.verify_types.specs.Handlers.{is_satisfied}
use Rattle.verify_types.specs.TypeStates.{TypeState}
use Rattle.verify_frames.specs.declared.known_state.Judged.{Judged}
use Rattle.verify_frames.specs.declared.watch.Around.{Around}
use Rattle.verify_frames.specs.KnownStates.{IsJudged, holds_at}
use Rattle.verify_frames.specs.Overwrites.{around}
use Rattle.verify_code.specs.declared.satisfied.JudgedTwice.{JudgedTwice}
use Rattle.verify_code.specs.declared.satisfied.SatisfiedStore.{SatisfiedStore}
use Rattle.verify_code.specs.declared.satisfied.SatisfiedStores.{SatisfiedStores}

-- two states satisfy the handlers at these pcs, and this state satisfies each handler that both satisfy
pub record AreJudged (env : Environment) (s : TypeState) (t : JudgedTwice) : Type 0 where
  pub first : TypeState
  pub second : TypeState
  pub one : IsJudged env first t.one
  pub other : IsJudged env second t.other
  pub both : (h : Handler) → is_satisfied env first h ≡ true → is_satisfied env second h ≡ true → is_satisfied env s h ≡ true

-- a state with these types around a local variable satisfies the handlers
pub record AreTaken (env : Environment) (local : ℕ) (types : Around) (j : Judged) : Type 0 where
  pub state : TypeState
  pub judged : IsJudged env state j
  pub around : around state.types.locals local ≡ types

abbrev pub IsTaken : Environment → SatisfiedStore → Type 0
IsTaken env s = AreTaken env s.local s.around s.judged

-- so are all stores that are remembered
abbrev pub AllTaken : Environment → SatisfiedStores → Type 0
AllTaken env s = All (IsTaken env) s.stores.items

-- a store to this local variable, which left these types around it
pub record IsOf (s : SatisfiedStore) (local : ℕ) (types : Around) : Type 0 where
  pub at : s.local ≡ local
  pub left : s.around ≡ types

-- it satisfies them at a pc, and on from there
pub record IsJudgedFrom (env : Environment) (s : TypeState) (pc : ℕ) (j : Judged) : Type 0 where
  pub judged : IsJudged env s j
  pub holds : holds_at pc (Some j) ≡ true
