-- A store that what the handlers want of local variables accepts.
use Rattle.std.specs.Prelude.{◌≡◌, ◌⊎◌, ℕ, ◌+◌, ◌-◌, Bool, true, List, length, ◌&&◌}
use Rattle.class_model.specs.declared.attribute.Row.{Row}
use Rattle.link_model.specs.World.{World}
use Rattle.verify_types.specs.TypeStates.{TypeState}
use Rattle.verify_frames.specs.declared.wanted.Wanted.{Wanted}
use Rattle.verify_frames.specs.declared.watch.Around.{Around}
use Rattle.verify_frames.specs.declared.known_state.Written.{Written}
use Rattle.verify_frames.specs.declared.known_state.Written.TheVariants as writes
use Rattle.verify_frames.specs.declared.overwritten.Overwritten.{Overwritten}
use Rattle.std.specs.List.{list_all}
use Rattle.stack_maps.specs.declared.types.VType.{VType}
use Rattle.verify_frames.specs.Overwrites.{around, type_at}
use Rattle.verify_frames.specs.Wanted.{accepts}
use Rattle.verify_code.specs.declared.guards.Guard.{Guard}

abbrev pub row_in : Guard → Row
row_in g = g.row

-- whether these types around a local variable are accepted at the pcs from one on and before another
abbrev pub accepts_around : World → Wanted → ℕ → ℕ → ℕ → Around → Bool
accepts_around w wanted from until n types =
    accepts w wanted from until (n - 1) types.before && (accepts w wanted from until n types.at && accepts w wanted from until (n + 1) types.next)

-- whether the types of all of these local variables are
abbrev pub accepts_all : World → Wanted → ℕ → ℕ → List Overwritten → List VType → Bool
accepts_all w wanted from until os locals = list_all (λ (o : Overwritten). accepts w wanted from until o.slot (type_at locals o.slot)) os

-- whether the types of local variables that were written are
abbrev pub accepts_written : World → Wanted → ℕ → ℕ → Written → List VType → Bool
accepts_written w wanted from until (writes.Store n) locals = accepts_around w wanted from until n (around locals n)
accepts_written w wanted from until (writes.Objects os) locals = accepts_all w wanted from until os.items locals

-- a state has the local variables and the flag of another, but for types that are accepted
pub record IsAccepted (w : World) (wanted : Wanted) (from until : ℕ) (before s : TypeState) : Type 0 where
  pub as_many : length before.types.locals ≡ length s.types.locals
  pub flag : before.this_uninit ≡ s.this_uninit
  pub each : (i : ℕ) → (type_at before.types.locals i ≡ type_at s.types.locals i) ⊎ (accepts w wanted from until i (type_at s.types.locals i) ≡ true)
