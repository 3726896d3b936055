-- The steps of a thread that its carrier made ahead, as one entry.
use Rattle.std.specs.Prelude.{◌≡◌, ◌<◌, ℕ, suc, true, false, List, Option, Some, slice_get}
use Rattle.history.specs.declared.entry.What.TheVariants.{Step}
use Rattle.vthread_state.specs.declared.phase.Phase.TheVariants.{Run}
use Rattle.vthread_state.specs.declared.thread.Status.TheVariants.{Live}
use Rattle.link_model.specs.World.{World}
use Rattle.state_model.specs.Frames.{Frame}
use Rattle.schedule_model.specs.Entries.{after_step, has_mounted, is_pick}
use Rattle.schedule_model.specs.Run.{Scheduled, scheduled_after, with_schedule}
use Rattle.ref_model.specs.Setting.{Setting}
use Rattle.ref_model.specs.State.{JavaThread, State, with_frames}
use Rattle.ref_model.specs.LocalRows.{rows}
use Rattle.ref_model.specs.Step.{enabled, step}
use Rattle.ref_model.specs.Entries.{is_grouped}
use Rattle.ref_model.specs.Looks.{look_of, machine_from, yields_after, yields_next}

-- The frames of a thread after local instructions that the history doesn't have yet. One that isn't in phase Run has made none.
pub record IsAhead (w : World) (r : State) (t n : ℕ) (frames : List Frame) : Type 0 where
  pub thread : JavaThread
  pub at : slice_get r.threads t ≡ Some thread
  pub running : 0 < n → thread.thread.status ≡ Live Run
  pub ahead : rows w n thread.frames ≡ Some frames

-- a carrier has the thread mounted, doesn't owe its Unmount, and the thread may step
pub record MayStep (p : Setting) (v : Scheduled State) (c t : ℕ) : Type 0 where
  pub mounted : has_mounted v.schedule c t ≡ true
  pub owes : v.schedule.owes t ≡ false
  pub may : enabled v.state t ≡ true

-- Whether the entry ends with a yield is seen before its last step.
abbrev pub YieldsAreNext : Type 0
YieldsAreNext = (p : Setting) (r : State) (t n : ℕ) (frames : List Frame) → enabled r t ≡ true → IsAhead p.world r t n frames →
    yields_after p r t (suc n) ≡ yields_next p.world (with_frames r t frames) t

-- Local instructions made ahead, and one more step, are the steps of one entry, which leads to the state after that step.
abbrev pub StepsAreEntries : Type 0
StepsAreEntries = (p : Setting) (first : State) (v : Scheduled State) (q : State) (c t n : ℕ) (frames : List Frame) (pick : Option ℕ) →
    MayStep p v c t → is_pick (look_of p.world v.state) v.schedule pick ≡ true → IsAhead p.world v.state t n frames →
    is_grouped p.world v.state t (suc n) ≡ true → step p (with_frames v.state t frames) t pick ≡ Some q →
    scheduled_after (machine_from p first) v c (Step t (suc n) pick) ≡
    Some (with_schedule q (after_step (look_of p.world v.state) (look_of p.world q) v.schedule c t
    (yields_next p.world (with_frames v.state t frames) t)))
