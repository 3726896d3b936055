-- What holds of steps and histories.
use Rattle.std.specs.Prelude.{◌≡◌, ℕ, suc, true, List, ◌++◌, Option, Some, None, drop}
use Rattle.history.specs.declared.entry.Entry.{Entry}
use Rattle.link_model.specs.World.{World}
use Rattle.state_model.specs.Frames.{Frame}
use Rattle.ref_model.specs.Setting.{Setting}
use Rattle.ref_model.specs.State.{State, with_frames}
use Rattle.ref_model.specs.LocalRows.{row, rows}
use Rattle.ref_model.specs.Ending.{ending}
use Rattle.ref_model.specs.Run.{steps, after_steps, run}
use Rattle.ref_model.specs.Entries.{frames_at, is_grouped}

-- A history that runs has run up to each of its entries.
abbrev pub PrefixesRun : Type 0
PrefixesRun = (p : Setting) (front back : List Entry) (r : State) →
    run p (front ++ back) ≡ Some r → (q : State) × (run p front ≡ Some q)

-- A local instruction looks at two frames at most, and all below these stay as they are.
pub record ChangesTop (frames after : List Frame) : Type 0 where
  pub tops : List Frame
  pub is : after ≡ tops ++ drop 2 frames

abbrev pub RowsChangeTops : Type 0
RowsChangeTops = (w : World) (frames after : List Frame) → row w frames ≡ Some after → ChangesTop frames after

-- Local instructions are steps, which change the frames of their thread and nothing else.
abbrev pub LocalSteps : Type 0
LocalSteps = (p : Setting) (r : State) (t n : ℕ) (before after : List Frame) →
    frames_at r t ≡ Some before → ending r ≡ None → rows p.world n before ≡ Some after →
    steps p n r t ≡ Some (with_frames r t after)

-- The steps of an entry but the last are local instructions: before the last one only the frames of the thread have changed.
pub record LocalBefore (p : Setting) (r : State) (t n : ℕ) : Type 0 where
  pub before : List Frame
  pub after : List Frame
  pub first : frames_at r t ≡ Some before
  pub local : rows p.world n before ≡ Some after
  pub state : steps p n r t ≡ Some (with_frames r t after)

abbrev pub EntriesAreLocal : Type 0
EntriesAreLocal = (p : Setting) (r q : State) (t n : ℕ) (pick : Option ℕ) →
    is_grouped p.world r t (suc (suc n)) ≡ true → after_steps p r t (suc (suc n)) pick ≡ Some q → LocalBefore p r t (suc n)
