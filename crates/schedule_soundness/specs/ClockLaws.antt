-- Why time goes on in a history (own).
use Rattle.std.specs.Prelude.{◌≡◌, ◌++◌, ℕ, zero, suc, Bool, true, false, List, ◌∷◌, None, Some}
use Rattle.std.specs.Option.{option_map_or}
use Rattle.items.specs.First.{Each}
use Rattle.history.specs.declared.entry.Entry.{Entry}
use Rattle.history.specs.declared.entry.What.TheVariants.{Step, Clock}
use Rattle.link_model.specs.World.{World}
use Rattle.schedule_model.specs.Run.{Scheduled, schedule_of}
use Rattle.ref_model.specs.declared.ending.Ending.{Ending}
use Rattle.ref_model.specs.Setting.{Setting}
use Rattle.ref_model.specs.State.{State}
use Rattle.ref_model.specs.Opening.{opening}
use Rattle.ref_model.specs.Alone.{alone}
use Rattle.ref_model.specs.Ending.{ending}
use Rattle.ref_model.specs.Run.{steps}
use Rattle.ref_model.specs.Looks.{look_of, machine_from, reads_clock_next}
use Rattle.schedule_soundness.specs.AloneLaws.{is_tick}
use Rattle.schedule_soundness.specs.PromiseLaws.{BeginsUnpinned}
use Rattle.schedule_soundness.specs.TimeLaws.{IsDue}

-- a live thread has a deadline that is still to come, and is reached at this time
pub record IsAwaited (w : World) (r : State) (now : ℕ) : Type 0 where
  pub thread : ℕ
  pub due : IsDue (look_of w r) now thread

-- whether the last of so many steps of a thread reads the clock
abbrev pub reads_clock_after : Setting → State → ℕ → ℕ → Bool
reads_clock_after p r t zero = false
reads_clock_after p r t (suc n) = option_map_or (λ q. reads_clock_next p.world q t) (steps p n r t) false

-- Why a carrier lets time go on in a state, to this, before these entries: a thread waits for that; or the next entry is a step of the
-- carrier, the last of whose steps reads the clock.
pub data HasReason (p : Setting) (r : State) (c now : ℕ) (later : List Entry) : Type 0 where
  awaited : IsAwaited p.world r now → HasReason p r c now later
  read : (t n : ℕ) (rest : List Entry) → later ≡ record { carrier = c; what = Step t n None } ∷ rest → reads_clock_after p r t n ≡ true →
      HasReason p r c now later

-- each entry of time in a history has a reason
abbrev pub HaveReasons : Setting → State → ℕ → List Entry → Type 0
HaveReasons p first carriers history =
    (front later : List Entry) (c now : ℕ) (v : Scheduled State) → history ≡ front ++ record { carrier = c; what = Clock now } ∷ later →
    schedule_of (machine_from p first) carriers front ≡ Some v → HasReason p v.state c now later

-- Where main's steps one after the other end the program, time doesn't go on before that, since there is no reason for it.
abbrev pub NothingTicksAlone : Type 0
NothingTicksAlone = (p : Setting) (first : State) (carriers : ℕ) (history : List Entry) (v : Scheduled State) (n : ℕ) (q : State) (told : Ending) →
    opening p ≡ Some first → BeginsUnpinned p → schedule_of (machine_from p first) carriers history ≡ Some v →
    HaveReasons p first carriers history → alone p n ≡ Some q → ending q ≡ Some told →
    Each (λ (e : Entry). is_tick e.what ≡ false) history
