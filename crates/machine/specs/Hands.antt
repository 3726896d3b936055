-- What carriers have, in what the history of a machine gives.
use Rattle.std.specs.Prelude.{◌≡◌, ◌<◌, ◌==◌, ℕ, Bool, true, false, not, List, [], Option, Some, All, slice_get}
use Rattle.thread_lists.specs.Lists.{first}
use Rattle.vthread_state.specs.declared.phase.Phase.{Phase}
use Rattle.vthread_state.specs.declared.phase.Phase.TheVariants.{Run}
use Rattle.vthread_state.specs.declared.thread.Status.TheVariants.{Live}
use Rattle.link_model.specs.World.{World}
use Rattle.state_model.specs.Frames.{Frame}
use Rattle.schedule_model.specs.Schedule.{in_deques, on_carriers}
use Rattle.schedule_model.specs.Entries.{has_mounted, is_idle, may_unmount}
use Rattle.schedule_model.specs.Run.{Scheduled}
use Rattle.ref_model.specs.Setting.{Setting}
use Rattle.ref_model.specs.State.{JavaThread, State}
use Rattle.ref_model.specs.Enabled.{has_ended}
use Rattle.ref_model.specs.LocalRows.{rows}
use Rattle.ref_model.specs.Step.{enabled}
use Rattle.ref_model.specs.Looks.{look_of}
use Rattle.frame_soundness.specs.Typed.{Typed}
use Rattle.machine.specs.Machines.{Given, Known}

-- Carrier c has thread t mounted, whose frames are these after n local instructions that the history doesn't have yet.
pub record HasHand (p : Setting) (v : Scheduled State) (c t n : ℕ) (frames : List Frame) : Type 0 where
  pub mounted : has_mounted v.schedule c t ≡ true
  pub thread : JavaThread
  pub at : slice_get v.state.threads t ≡ Some thread
  pub running : 0 < n → thread.thread.status ≡ Live Run
  pub ahead : rows p.world n thread.frames ≡ Some frames

abbrev pub Holds : Known → ℕ → ℕ → ℕ → List Frame → Type 0
Holds m c t n frames = Given m (λ v. HasHand m.setting v c t n frames)

-- ---- one carrier

abbrev pub Idle : Known → ℕ → Type 0
Idle m c = Given m (λ v. is_idle v.schedule c ≡ true)

abbrev pub MayUnmount : Known → ℕ → ℕ → Type 0
MayUnmount m c t = Given m (λ v. may_unmount (look_of m.setting.world v.state) v.schedule c t ≡ true)

-- ---- one thread

-- it is live, and in this phase
pub record IsLiveIn (r : State) (t : ℕ) (phase : Phase) : Type 0 where
  pub thread : JavaThread
  pub at : slice_get r.threads t ≡ Some thread
  pub status : thread.thread.status ≡ Live phase

pub record IsLive (r : State) (t : ℕ) : Type 0 where
  pub phase : Phase
  pub live : IsLiveIn r t phase

-- it is live, pinned, and can't go on, so that its carrier keeps it
pub record IsHeld (w : World) (r : State) (t : ℕ) : Type 0 where
  pub live : IsLive r t
  pub pinned : (look_of w r).pinned t ≡ true
  pub off : enabled r t ≡ false

abbrev pub Lives : Known → ℕ → Type 0
Lives m t = Given m (λ v. IsLive v.state t)

abbrev pub HasPhase : Known → ℕ → Phase → Type 0
HasPhase m t phase = Given m (λ v. IsLiveIn v.state t phase)

abbrev pub HasEnded : Known → ℕ → Type 0
HasEnded m t = Given m (λ v. has_ended v.state t ≡ true)

-- some carrier has it mounted
abbrev pub IsMounted : Known → ℕ → Type 0
IsMounted m t = Given m (λ v. 0 < on_carriers t v.schedule)

abbrev pub Waits : Known → ℕ → Type 0
Waits m t = Given m (λ v. IsHeld m.setting.world v.state t)

-- nothing pins it to its carrier (JEP 444)
abbrev pub IsLoose : Known → ℕ → Type 0
IsLoose m t = Given m (λ v. (look_of m.setting.world v.state).pinned t ≡ false)

abbrev pub MayStep : Known → ℕ → Type 0
MayStep m t = Given m (λ v. enabled v.state t ≡ true)

-- its carrier doesn't owe its Unmount, or it does
abbrev pub OwesNothing : Known → ℕ → Type 0
OwesNothing m t = Given m (λ v. v.schedule.owes t ≡ false)

abbrev pub OwesUnmount : Known → ℕ → Type 0
OwesUnmount m t = Given m (λ v. v.schedule.owes t ≡ true)

-- where it runs these frames keep to the typing
abbrev pub AreTypedInRun : Known → ℕ → List Frame → Type 0
AreTypedInRun m t frames = Given m (λ v. IsLiveIn v.state t Run → Typed m.setting.world frames)

-- ---- all carriers

abbrev pub AreDequesEmpty : Known → Type 0
AreDequesEmpty m = Given m (λ v. All (λ deque. deque ≡ []) v.schedule.deques)

-- ---- a carrier's deque

abbrev pub IsFirstInDeque : Known → ℕ → Option ℕ → Type 0
IsFirstInDeque m c thread = Given m (λ v. thread ≡ first v.schedule.deques c)

abbrev pub TellsIfInDeque : Known → ℕ → Bool → Type 0
TellsIfInDeque m t b = Given m (λ v. b ≡ not (in_deques t v.schedule == 0))
