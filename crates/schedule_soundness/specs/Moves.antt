-- What a step of one thread, or time that goes on, may do to another thread.
use Rattle.std.specs.Prelude.{◌≡◌, ◌≢◌, ◌⊎◌, ℕ, true, [], ◌∷◌, Option, Some, None, slice_get, false}
use Rattle.link_rules.specs.declared.choice.Choice.TheVariants.{Method}
use Rattle.link_rules.specs.declared.place.MemberPlace.{MemberPlace}
use Rattle.link_rules.specs.Members.{method_number}
use Rattle.vthread_state.specs.declared.phase.Phase.TheVariants.{Run, Entering, Waiting, Reenter}
use Rattle.vthread_state.specs.declared.phase.Wake.{Wake}
use Rattle.vthread_state.specs.declared.thread.Status.TheVariants.{New, Live}
use Rattle.link_model.specs.declared.members.MethodInfo.{MethodInfo}
use Rattle.link_model.specs.Methods.{choice_of}
use Rattle.link_model.specs.World.{World}
use Rattle.state_model.specs.Frames.{Frame}
use Rattle.ref_model.specs.Setting.{Setting}
use Rattle.ref_model.specs.State.{JavaThread, State}
use Rattle.ref_model.specs.Starting.{run_method}
use Rattle.ref_model.specs.Step.{step}
use Rattle.ref_model.specs.Waiting.{at_time}
use Rattle.ref_model.specs.Alone.{is_start}
use Rattle.ref_model.specs.Resuming.{next_asks}
use Rattle.ref_model.specs.Looks.{look_of}
use Rattle.schedule_soundness.specs.Started.{was_started}

-- A thread that was started just now has one frame, of the run that is selected for an object. It runs, or enters the monitor of its object
-- first.
pub record IsStarted (w : World) (after : JavaThread) : Type 0 where
  pub class : ℕ
  pub run : ℕ
  pub at : MemberPlace
  pub method : MethodInfo
  pub frame : Frame
  pub run_is : run_method w ≡ Some run
  pub chosen : choice_of w class run ≡ Some (Method at)
  pub there : slice_get w.methods (method_number w.program at) ≡ Some method
  pub frames : after.frames ≡ frame ∷ []
  pub frame_is : frame.method ≡ method_number w.program at
  pub phase : (after.thread.status ≡ Live Run) ⊎ ((o : ℕ) × (after.thread.status ≡ Live (Entering o)))

-- what becomes of a thread that doesn't step
pub data Moved (w : World) (before after : Option JavaThread) : Type 0 where
  still : after ≡ before → Moved w before after
  -- it stays where it is: it may be given a permit, an interrupt or a name, or be made a daemon or none
  told : (x y : JavaThread) → before ≡ Some x → after ≡ Some y → y.thread.status ≡ x.thread.status → y.frames ≡ x.frames →
      (x.permit ≡ true → y.permit ≡ true) → (x.interrupted ≡ true → y.interrupted ≡ true) → Moved w before after
  -- its wait on a monitor ends
  woken : (x y : JavaThread) (o count : ℕ) (deadline : Option ℕ) (wake : Wake) → before ≡ Some x → after ≡ Some y →
      x.thread.status ≡ Live (Waiting o count deadline) → y.thread.status ≡ Live (Reenter o count wake) → y.frames ≡ x.frames →
      Moved w before after
  started : (x y : JavaThread) → before ≡ Some x → after ≡ Some y → x.thread.status ≡ New → IsStarted w y → Moved w before after
  made : (y : JavaThread) → before ≡ None → after ≡ Some y → y.thread.status ≡ New → y.frames ≡ [] → Moved w before after

-- A step of a thread moves the others so, ..
abbrev pub StepsMoveOthers : Type 0
StepsMoveOthers = (p : Setting) (r q : State) (t u : ℕ) (pick : Option ℕ) → step p r t pick ≡ Some q → u ≢ t →
    Moved p.world (slice_get r.threads u) (slice_get q.threads u)

-- .. and time moves all.
abbrev pub TimeMovesAll : Type 0
TimeMovesAll = (w : World) (r q : State) (u now : ℕ) → at_time r now ≡ Some q → Moved w (slice_get r.threads u) (slice_get q.threads u)

-- Only a step that asks for the start of a thread starts one.
abbrev pub OnlyStartsStart : Type 0
OnlyStartsStart = (p : Setting) (r q : State) (t u : ℕ) (pick : Option ℕ) → step p r t pick ≡ Some q →
    next_asks p.world r t is_start ≡ false → u ≢ t → was_started ((look_of p.world r).spot u) ≡ false →
    was_started ((look_of p.world q).spot u) ≡ false
