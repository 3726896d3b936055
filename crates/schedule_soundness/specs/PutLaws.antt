-- Whom a step puts into the deque of its carrier, by what it does to the threads.
use Rattle.std.specs.Prelude.{◌≡◌, ◌≢◌, ◌⊎◌, ◌↔◌, ◌==◌, ◌&&◌, ℕ, true, false, Contains, List, [], ◌∷◌, Option, None, Some, if◌then◌else◌, map, slice_get}
use Rattle.std.specs.List.Sorted.{IsStrictlyIncreasing}
use Rattle.vthread_state.specs.declared.thread.Status.TheVariants.{New}
use Rattle.vthread_state.specs.declared.thread.Thread.{Thread}
use Rattle.vthread_state.specs.Threads.{joins_in}
use Rattle.schedule_model.specs.Look.{is_in_line}
use Rattle.schedule_model.specs.Schedule.{places}
use Rattle.schedule_model.specs.Puts.{all_threads, put_by}
use Rattle.schedule_model.specs.Entries.{has_mounted}
use Rattle.schedule_model.specs.Run.{Scheduled}
use Rattle.ref_model.specs.declared.ending.Ending.{Ending}
use Rattle.ref_model.specs.Setting.{Setting}
use Rattle.ref_model.specs.State.{JavaThread, State}
use Rattle.ref_model.specs.Ending.{ending, is_live}
use Rattle.ref_model.specs.Enabled.{enabled, has_ended}
use Rattle.ref_model.specs.Looks.{look_of}
use Rattle.schedule_soundness.specs.HistoryLaws.{IsProgramAfter}

-- ---- what a step leaves as it was

-- What others see of a thread stays: its status, its permit and its interrupt status. Or it was made just now.
pub data Stays (before after : Option JavaThread) : Type 0 where
  no_thread : before ≡ None → after ≡ None → Stays before after
  is_new : (y : JavaThread) → before ≡ None → after ≡ Some y → y.thread.status ≡ New → Stays before after
  is_kept : (x y : JavaThread) → before ≡ Some x → after ≡ Some y → y.thread.status ≡ x.thread.status → y.permit ≡ x.permit →
      y.interrupted ≡ x.interrupted → Stays before after

-- all threads but one stay, and so do the owners of monitors and the time
pub record OthersStay (t : ℕ) (before after : State) : Type 0 where
  pub threads : (u : ℕ) → u ≢ t → Stays (slice_get before.threads u) (slice_get after.threads u)
  pub owners : after.owners ≡ before.owners
  pub now : after.now ≡ before.now

-- all threads but these two stay, and so do the owners of monitors and the time
pub record OthersStayBeside (t u : ℕ) (before after : State) : Type 0 where
  pub threads : (v : ℕ) → v ≢ t → v ≢ u → Stays (slice_get before.threads v) (slice_get after.threads v)
  pub owners : after.owners ≡ before.owners
  pub now : after.now ≡ before.now

-- by this thread no wait of others ends: it hasn't ended, or the program has
abbrev pub EndsNoWait : State → ℕ → Type 0
EndsNoWait q t = (has_ended q t ≡ false) ⊎ ((e : Ending) × (ending q ≡ Some e))

-- it was made, and not started; it is live
pub record IsNew (r : State) (u : ℕ) : Type 0 where
  pub thread : JavaThread
  pub there : slice_get r.threads u ≡ Some thread
  pub status : thread.thread.status ≡ New

pub record IsLive (r : State) (u : ℕ) : Type 0 where
  pub thread : JavaThread
  pub there : slice_get r.threads u ≡ Some thread
  pub status : is_live thread.thread.status ≡ true

-- it is there and has the status that it had, whatever became of its permit and its interrupt status
pub record IsWoken (before after : State) (u : ℕ) : Type 0 where
  pub old : JavaThread
  pub new : JavaThread
  pub was : slice_get before.threads u ≡ Some old
  pub is : slice_get after.threads u ≡ Some new
  pub status : new.thread.status ≡ old.thread.status

-- the threads of a state, as the table of threads has them
abbrev pub rows_of : State → List Thread
rows_of r = map (λ (x : JavaThread). x.thread) r.threads

-- ---- who is put

-- Where nothing changes but the thread that steps, and it doesn't end, nobody is put.
abbrev pub QuietStepsPutNobody : Type 0
QuietStepsPutNobody = (p : Setting) (v : Scheduled State) (q : State) (c t : ℕ) (entry_list : ℕ → List ℕ) →
    has_mounted v.schedule c t ≡ true → ending v.state ≡ None → OthersStay t v.state q → EndsNoWait q t →
    put_by (look_of p.world v.state) (look_of p.world q) entry_list v.schedule (all_threads (look_of p.world q)) ≡ []

-- With the end of a thread those are put, by their number, that join it and are in no place.
abbrev pub EndsPutJoiners : Type 0
EndsPutJoiners = (p : Setting) (first : State) (v : Scheduled State) (q : State) (c t : ℕ) (entry_list : ℕ → List ℕ) (joiners : List ℕ) →
    IsProgramAfter p first v → has_mounted v.schedule c t ≡ true → ending v.state ≡ None → ending q ≡ None → OthersStay t v.state q →
    has_ended q t ≡ true → IsStrictlyIncreasing joiners →
    ((u : ℕ) → Contains joiners u ↔ ((joins_in (rows_of v.state) u ≡ Some t) × (places u v.schedule ≡ 0))) →
    put_by (look_of p.world v.state) (look_of p.world q) entry_list v.schedule (all_threads (look_of p.world q)) ≡ joiners

-- With the start of a thread it is put, and nobody else.
abbrev pub StartsPutTheStarted : Type 0
StartsPutTheStarted = (p : Setting) (first : State) (v : Scheduled State) (q : State) (c t u : ℕ) (entry_list : ℕ → List ℕ) →
    IsProgramAfter p first v → has_mounted v.schedule c t ≡ true → ending v.state ≡ None → OthersStayBeside t u v.state q →
    EndsNoWait q t → IsNew v.state u → IsLive q u →
    put_by (look_of p.world v.state) (look_of p.world q) entry_list v.schedule (all_threads (look_of p.world q)) ≡ u ∷ []

-- Where a thread that is in no line gets a permit or an interrupt (LockSupport.unpark, Thread.interrupt) it is put if it is in no place and
-- may step then, and nobody else is.
abbrev pub WakesPutTheWoken : Type 0
WakesPutTheWoken = (p : Setting) (first : State) (v : Scheduled State) (q : State) (c t u : ℕ) (entry_list : ℕ → List ℕ) →
    IsProgramAfter p first v → has_mounted v.schedule c t ≡ true → ending v.state ≡ None → OthersStayBeside t u v.state q →
    EndsNoWait q t → IsWoken v.state q u → is_in_line ((look_of p.world v.state).spot u) ≡ false →
    put_by (look_of p.world v.state) (look_of p.world q) entry_list v.schedule (all_threads (look_of p.world q)) ≡
    (if (places u v.schedule == 0) && enabled q u then u ∷ [] else [])
