-- The schedule of a machine after a history.
use Rattle.std.specs.Prelude.{ℕ, Bool, List, [], ◌∷◌, Option, None, Some, is_some, if◌then◌else◌}
use Rattle.items.specs.Options.{◌>>=◌}
use Rattle.history.specs.declared.entry.Entry.{Entry}
use Rattle.history.specs.declared.entry.What.{What}
use Rattle.history.specs.declared.entry.What.TheVariants.{Mount, Unmount, Step, Clock}
use Rattle.schedule_model.specs.Look.{Look}
use Rattle.schedule_model.specs.Schedule.{Schedule, opening_schedule}
use Rattle.schedule_model.specs.Entries.{after_step, after_tick, may_step, may_tick, mount, unmount}

-- A machine whose threads can be looked at. It knows no carriers: any enabled thread may step.
pub record Machine (S : Type 0) : Type 0 where
  pub opening : S
  pub look : S → Look
  -- so many steps of a thread in one entry, of which the last may pick another; undefined where they aren't an entry's
  pub steps : S → ℕ → ℕ → Option ℕ → Option S
  -- whether the last of so many steps of a thread is a yield (Thread.yield)
  pub yields : S → ℕ → ℕ → Bool
  -- time goes on to this
  pub tick : S → ℕ → Option S

-- ---- without carriers

abbrev pub state_after : {S : Type 0} → Machine S → S → What → Option S
state_after m r (Mount t) = Some r
state_after m r (Unmount t) = Some r
state_after m r (Step t n pick) = m.steps r t n pick
state_after m r (Clock now) = m.tick r now

abbrev pub replay : {S : Type 0} → Machine S → S → List Entry → Option S
replay m r [] = Some r
replay m r (e ∷ es) = state_after m r e.what >>= λ q. replay m q es

-- ---- with carriers

pub record Scheduled (S : Type 0) : Type 0 where
  pub state : S
  pub schedule : Schedule

abbrev pub with_schedule : {S : Type 0} → S → Schedule → Scheduled S
with_schedule r s = record { state = r; schedule = s }

-- What an entry of carrier c makes of both. It is undefined where the entry may not stand there.
abbrev pub scheduled_after : {S : Type 0} → Machine S → Scheduled S → ℕ → What → Option (Scheduled S)
scheduled_after m v c (Mount t) = mount (m.look v.state) v.schedule c t >>= λ s. Some (with_schedule v.state s)
scheduled_after m v c (Unmount t) = unmount (m.look v.state) v.schedule c t >>= λ s. Some (with_schedule v.state s)
scheduled_after m v c (Step t n pick) =
    if may_step (m.look v.state) v.schedule c t pick then
    (m.steps v.state t n pick >>= λ q.
    Some (with_schedule q (after_step (m.look v.state) (m.look q) v.schedule c t (m.yields v.state t n))))
    else None
scheduled_after m v c (Clock now) =
    if may_tick (m.look v.state) v.schedule c then
    (m.tick v.state now >>= λ q. Some (with_schedule q (after_tick (m.look v.state) (m.look q) v.schedule c)))
    else None

abbrev pub schedule_from : {S : Type 0} → Machine S → Scheduled S → List Entry → Option (Scheduled S)
schedule_from m v [] = Some v
schedule_from m v (e ∷ es) = scheduled_after m v e.carrier e.what >>= λ w. schedule_from m w es

-- the machine and its schedule after a history, with this many carriers
abbrev pub schedule_of : {S : Type 0} → Machine S → ℕ → List Entry → Option (Scheduled S)
schedule_of m carriers history = schedule_from m (with_schedule m.opening (opening_schedule carriers)) history

-- each entry of the history may stand where it stands
abbrev pub is_legal : {S : Type 0} → Machine S → ℕ → List Entry → Bool
is_legal m carriers history = is_some (schedule_of m carriers history)
