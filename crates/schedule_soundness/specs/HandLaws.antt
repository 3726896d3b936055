-- The hand of a carrier: the frames of the thread that it has mounted, some local instructions ahead of the state. It makes these outside the
-- lock, and tells them by the entry of its next step.
use Rattle.std.specs.Prelude.{◌≡◌, ◌≢◌, ℕ, suc, true, false, List, Option, Some, None}
use Rattle.items.specs.First.{Each}
use Rattle.history.specs.declared.entry.Entry.{Entry}
use Rattle.history.specs.declared.entry.What.{What}
use Rattle.state_model.specs.Frames.{Frame}
use Rattle.schedule_model.specs.Entries.{has_mounted, may_unmount}
use Rattle.schedule_model.specs.Run.{Scheduled, schedule_from, scheduled_after}
use Rattle.ref_model.specs.Setting.{Setting}
use Rattle.ref_model.specs.State.{State, with_frames, frames_at}
use Rattle.ref_model.specs.Ending.{ending}
use Rattle.ref_model.specs.Step.{step}
use Rattle.ref_model.specs.LocalRows.{row, rows}
use Rattle.ref_model.specs.Entries.{is_grouped}
use Rattle.ref_model.specs.Looks.{look_of, grouped_steps, machine_from}
use Rattle.schedule_soundness.specs.HistoryLaws.{IsProgramAfter}

-- carrier c has thread t mounted, which runs, and has these frames after n local instructions
pub record FitsHand (p : Setting) (v : Scheduled State) (c t n : ℕ) (frames : List Frame) : Type 0 where
  pub mounted : has_mounted v.schedule c t ≡ true
  pub base : List Frame
  pub has : frames_at v.state t ≡ Some base
  pub ahead : rows p.world n base ≡ Some frames

-- A hand still fits after an entry of another carrier, whatever that is.
abbrev pub EntriesLeaveHands : Type 0
EntriesLeaveHands = (p : Setting) (first : State) (v w : Scheduled State) → IsProgramAfter p first v → (c k t n : ℕ) (frames : List Frame)
    (what : What) → k ≢ c → scheduled_after (machine_from p first) v k what ≡ Some w → FitsHand p v c t n frames → FitsHand p w c t n frames

-- So it still fits after as many of them as there are.
abbrev pub HandsOutlastEntries : Type 0
HandsOutlastEntries = (p : Setting) (first : State) (v w : Scheduled State) → IsProgramAfter p first v → (c t n : ℕ) (frames : List Frame)
    (entries : List Entry) → Each (λ (e : Entry). e.carrier ≢ c) entries → schedule_from (machine_from p first) v entries ≡ Some w →
    FitsHand p v c t n frames → FitsHand p w c t n frames

-- So does what the carrier owes, and what it may unmount, while the program goes on.
abbrev pub OwedOutlastsEntries : Type 0
OwedOutlastsEntries = (p : Setting) (first : State) (v w : Scheduled State) → IsProgramAfter p first v → (c t : ℕ) (entries : List Entry) →
    Each (λ (e : Entry). e.carrier ≢ c) entries → schedule_from (machine_from p first) v entries ≡ Some w →
    has_mounted v.schedule c t ≡ true → w.schedule.owes t ≡ v.schedule.owes t

abbrev pub UnmountsOutlastEntries : Type 0
UnmountsOutlastEntries = (p : Setting) (first : State) (v w : Scheduled State) → IsProgramAfter p first v → (c t : ℕ) (entries : List Entry) →
    Each (λ (e : Entry). e.carrier ≢ c) entries → schedule_from (machine_from p first) v entries ≡ Some w →
    (look_of p.world w.state).ended ≡ false → may_unmount (look_of p.world v.state) v.schedule c t ≡ true →
    may_unmount (look_of p.world w.state) w.schedule c t ≡ true

-- One more local instruction goes on from the frames of the hand.
abbrev pub HandsGoOn : Type 0
HandsGoOn = (p : Setting) (v : Scheduled State) (c t n : ℕ) (frames after : List Frame) → FitsHand p v c t n frames →
    row p.world frames ≡ Some after → FitsHand p v c t (suc n) after

-- So local instructions made ahead, and a step then, are the steps of one entry made in its turn.
abbrev pub RowsAreEntries : Type 0
RowsAreEntries = (p : Setting) (v : Scheduled State) (c t n : ℕ) (frames : List Frame) (pick : Option ℕ) → FitsHand p v c t n frames →
    ending v.state ≡ None → is_grouped p.world v.state t (suc n) ≡ true →
    grouped_steps p v.state t (suc n) pick ≡ step p (with_frames v.state t frames) t pick
