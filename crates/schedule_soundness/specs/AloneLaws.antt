-- What main alone does.
use Rattle.std.specs.Prelude.{◌≡◌, ◌⊎◌, ℕ, ◌+◌, ◌*◌, ◌<◌, ◌≤◌, Bool, true, false, List, [], ◌∷◌, Option, None, Some, length}
use Rattle.items.specs.First.{Each}
use Rattle.history.specs.declared.entry.Entry.{Entry}
use Rattle.history.specs.declared.entry.What.{What}
use Rattle.history.specs.declared.entry.What.TheVariants.{Step, Clock}
use Rattle.history.specs.Java.{java}
use Rattle.schedule_model.specs.Run.{Scheduled, schedule_of}
use Rattle.ref_model.specs.Setting.{Setting}
use Rattle.ref_model.specs.State.{State}
use Rattle.ref_model.specs.Opening.{opening}
use Rattle.ref_model.specs.Alone.{alone, stepped_alone}
use Rattle.ref_model.specs.declared.ending.Ending.{Ending}
use Rattle.ref_model.specs.Ending.{ending}
use Rattle.ref_model.specs.Enabled.{enabled}
use Rattle.ref_model.specs.Looks.{lacks_threads_next, look_of, machine_from}
use Rattle.schedule_soundness.specs.PromiseLaws.{BeginsUnpinned}
use Rattle.schedule_soundness.specs.Started.{OnlyMain}

-- where it is a step, it is one of main
abbrev pub IsOfMain : Entry → Type 0
IsOfMain e = (t n : ℕ) (pick : Option ℕ) → e.what ≡ Step t n pick → t ≡ 0

-- While no other thread was started, each step of a legal history is main's.
abbrev pub StepsAreOfMain : Type 0
StepsAreOfMain = (p : Setting) (first : State) (carriers : ℕ) (history : List Entry) (v : Scheduled State) →
    schedule_of (machine_from p first) carriers history ≡ Some v → OnlyMain (look_of p.world v.state) → Each IsOfMain (java history)

-- how many steps an entry has, and how many entries have
abbrev pub steps_of : What → ℕ
steps_of (Step t n pick) = n
steps_of what = 0

abbrev pub steps_in : List Entry → ℕ
steps_in [] = 0
steps_in (e ∷ es) = steps_of e.what + steps_in es

abbrev pub is_tick : What → Bool
is_tick (Clock now) = true
is_tick what = false

-- Where main's steps one after the other are defined, so that none of them starts a thread or reads the clock, and time hasn't gone on, the
-- state is that of as many of them, and no other thread was started.
abbrev pub MainRunsAlone : Type 0
MainRunsAlone = (p : Setting) (first : State) (carriers : ℕ) (history : List Entry) (v : Scheduled State) (r : State) →
    opening p ≡ Some first → schedule_of (machine_from p first) carriers history ≡ Some v →
    Each (λ (e : Entry). is_tick e.what ≡ false) (java history) → alone p (steps_in (java history)) ≡ Some r →
    (r ≡ v.state) × OnlyMain (look_of p.world v.state)

-- The program goes on after a history, in a state in which main's next step is one of these: it may be made, and makes no thread too many.
-- No other thread was started. Of three entries for each of these steps the history leaves two at least.
pub record MainGoes (p : Setting) (history : List Entry) (n : ℕ) (r : State) : Type 0 where
  pub goes : ending r ≡ None
  pub next : State
  pub steps : stepped_alone p r ≡ Some next
  pub may : enabled r 0 ≡ true
  pub room : lacks_threads_next p.world r 0 ≡ false
  pub only : OnlyMain (look_of p.world r)
  pub few : length history + 2 ≤ 3 * n

-- Where so many of main's steps one after the other end the program, a history without ticks leads to the same end, or it goes on so.
abbrev pub MainGoesOn : Type 0
MainGoesOn = (p : Setting) (first : State) (carriers : ℕ) (history : List Entry) (v : Scheduled State) (n : ℕ) (q : State) (told : Ending) →
    opening p ≡ Some first → BeginsUnpinned p → 0 < carriers → schedule_of (machine_from p first) carriers history ≡ Some v →
    Each (λ (e : Entry). is_tick e.what ≡ false) (java history) → alone p n ≡ Some q → ending q ≡ Some told →
    (v.state ≡ q) ⊎ MainGoes p history n v.state
