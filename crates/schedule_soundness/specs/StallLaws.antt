-- By whom it is seen that a program can't go on, and whom an entry puts into a deque, after each legal history.
use Rattle.std.specs.Prelude.{◌≡◌, ◌<◌, ℕ, true, false, Option, Some}
use Rattle.schedule_model.specs.Schedule.{Schedule, places}
use Rattle.schedule_model.specs.Entries.{after_step, after_tick, may_step, may_tick, mount}
use Rattle.schedule_model.specs.Run.{Scheduled}
use Rattle.schedule_model.specs.Stalled.{has_time, is_starved}
use Rattle.schedule_model.specs.Laws.{PutsWhoIsEnabled}
use Rattle.ref_model.specs.Setting.{Setting}
use Rattle.ref_model.specs.State.{State}
use Rattle.ref_model.specs.Step.{enabled}
use Rattle.ref_model.specs.Waiting.{at_time}
use Rattle.ref_model.specs.Looks.{look_of, grouped_steps, is_stalled, yields_after}
use Rattle.schedule_soundness.specs.HistoryLaws.{IsProgramAfter}

-- Where nobody who is mounted or in a deque may step, nobody may; ..
abbrev pub PlacesTell : Type 0
PlacesTell = (p : Setting) (first : State) (v : Scheduled State) → IsProgramAfter p first v → (look_of p.world v.state).ended ≡ false →
    ((t : ℕ) → 0 < places t v.schedule → enabled v.state t ≡ false) → (t : ℕ) → enabled v.state t ≡ false

-- .. so the program is stalled where no thread has a deadline to come either.
abbrev pub StallsByPlaces : Type 0
StallsByPlaces = (p : Setting) (first : State) (v : Scheduled State) → IsProgramAfter p first v →
    (look_of p.world v.state).ended ≡ false → ((t : ℕ) → 0 < places t v.schedule → enabled v.state t ≡ false) →
    ((t : ℕ) → has_time (look_of p.world v.state) t ≡ false) → is_stalled p.world v.state ≡ true

-- A mount starves nobody.
abbrev pub MountsStarveNobody : Type 0
MountsStarveNobody = (p : Setting) (first : State) (v : Scheduled State) → IsProgramAfter p first v → (c t : ℕ) (s : Schedule) →
    mount (look_of p.world v.state) v.schedule c t ≡ Some s → is_starved (look_of p.world v.state) s ≡ false

-- Of those in no place and, after a step or a tick, in no line, those are put into the deque that may step then.
abbrev pub StepsPutWhoIsEnabled : Type 0
StepsPutWhoIsEnabled = (p : Setting) (first q : State) (v : Scheduled State) → IsProgramAfter p first v → (c t n : ℕ) (pick : Option ℕ) →
    may_step (look_of p.world v.state) v.schedule c t pick ≡ true → grouped_steps p v.state t n pick ≡ Some q →
    (look_of p.world q).ended ≡ false →
    PutsWhoIsEnabled (look_of p.world v.state) (look_of p.world q) v.schedule
    (after_step (look_of p.world v.state) (look_of p.world q) v.schedule c t (yields_after p v.state t n))

abbrev pub TicksPutWhoIsEnabled : Type 0
TicksPutWhoIsEnabled = (p : Setting) (first q : State) (v : Scheduled State) → IsProgramAfter p first v → (c now : ℕ) →
    may_tick (look_of p.world v.state) v.schedule c ≡ true → at_time v.state now ≡ Some q → (look_of p.world q).ended ≡ false →
    PutsWhoIsEnabled (look_of p.world v.state) (look_of p.world q) v.schedule
    (after_tick (look_of p.world v.state) (look_of p.world q) v.schedule c)
