-- Runs of local instructions of a thread, in its top frame and in those to which it returns.
use Rattle.std.specs.Prelude.{◌≡◌, ◌⊎◌, ℕ, suc, ◌≤◌, Bool, true, false, not, List, Option, None, Some, is_some, ◌||◌}
use Rattle.link_model.specs.World.{World}
use Rattle.state_model.specs.Frames.{Frame}
use Rattle.ref_model.specs.LocalRows.{row, rows}
use Rattle.ref_model.specs.Entries.{most_local_steps, stands_at_static_call}
use Rattle.frame_soundness.specs.Typed.{Typed}
use Rattle.interp_local.specs.declared.fetched.Fetched.{Fetched}
use Rattle.interp_local.specs.Fetched.{IsTopAt}
use Rattle.carrier_turns.specs.declared.local.LocalRun.{LocalRun}

-- A run of local instructions ends with these frames: the next instruction isn't local, or it is an invokestatic.
abbrev pub ends_run : World → List Frame → Bool
ends_run w frames = not (is_some (row w frames)) || stands_at_static_call w frames

-- Whether a local instruction was made that leads to another frame, a return to the caller or an invokestatic; if not, the frames stay, and a
-- run ends with them.
abbrev pub GoesOver : World → List Frame → List Frame → Bool → Type 0
GoesOver w old new true = (row w old ≡ Some new) × Typed w new
GoesOver w old new false = (new ≡ old) × (ends_run w old ≡ true)

-- So many local instructions were made, at most one more than come before the last step of an entry; with fewer, a run ends with the frames.
pub record IsLongRun (w : World) (n : ℕ) (old new : List Frame) : Type 0 where
  pub rows : rows w n old ≡ Some new
  pub typed : Typed w new
  pub few : n ≤ suc most_local_steps
  pub ends : n ≤ most_local_steps → ends_run w new ≡ true

-- A run of local instructions has stopped with these frames: at this instruction, with which its entry may end, or with one more than come
-- before the last step of an entry.
pub record HasStopped (w : World) (run : LocalRun) (frames : List Frame) : Type 0 where
  pub typed : Typed w frames
  pub few : run.steps ≤ suc most_local_steps
  pub ends : run.steps ≤ most_local_steps → ends_run w frames ≡ true
  pub next : IsTopAt w frames run.next

-- ---- the local run in a hand, if there is one

abbrev pub steps_of : Option LocalRun → ℕ
steps_of None = 0
steps_of (Some run) = run.steps

abbrev pub stop_of : Option LocalRun → Option Fetched
stop_of None = None
stop_of (Some run) = Some run.next

-- so many of its steps come before the last step of their entry: all, or all but one where an entry has no room for another step
abbrev pub AreAhead : Option LocalRun → ℕ → Type 0
AreAhead local n = (n ≡ steps_of local) ⊎ (steps_of local ≡ 10001)
