-- What holds of the history of a machine, and of an ending that was told.
use Rattle.std.specs.Prelude.{◌≡◌, ◌<◌, ◌≤◌, ℕ, true, false, List, Some, None, length}
use Rattle.std.specs.Option.{ForSome}
use Rattle.state_model.specs.Frames.{Frame}
use Rattle.link_soundness.specs.Library.{HasLibrary}
use Rattle.schedule_model.specs.Run.{Scheduled, schedule_of}
use Rattle.schedule_model.specs.Stalled.{is_starved}
use Rattle.ref_model.specs.declared.ending.Ending.{Ending}
use Rattle.ref_model.specs.declared.ending.Ending.TheVariants.{Stalled, Starved, Limit, Halted}
use Rattle.ref_model.specs.declared.ending.Which.TheVariants.{Threads}
use Rattle.ref_model.specs.Setting.{Setting}
use Rattle.ref_model.specs.State.{State, with_frames}
use Rattle.ref_model.specs.Opening.{opening}
use Rattle.ref_model.specs.Ending.{ending}
use Rattle.ref_model.specs.Looks.{is_stalled, lacks_threads_next, look_of, machine_from}
use Rattle.schedule_soundness.specs.PromiseLaws.{BeginsUnpinned}
use Rattle.schedule_soundness.specs.TypedLaws.{IsTypedProgram}
use Rattle.machine.specs.Hands.{HasHand}
use Rattle.machine.specs.Machines.{Given, Known}

-- ---- an ending that was told

-- the next step of a mounted thread would make one more thread than there may be
pub record LacksThreads (p : Setting) (v : Scheduled State) : Type 0 where
  pub carrier : ℕ
  pub thread : ℕ
  pub local : ℕ
  pub frames : List Frame
  pub hand : HasHand p v carrier thread local frames
  pub lacks : lacks_threads_next p.world (with_frames v.state thread frames) thread ≡ true
  pub going : ending v.state ≡ None

-- No thread can go on; or each carrier has a pinned thread that can't; or there are as many threads as may be, and a step would make one more;
-- or the run was given up while the program went on.
abbrev pub IsCause : Setting → Scheduled State → Ending → Type 0
IsCause p v Stalled = is_stalled p.world v.state ≡ true
IsCause p v Starved = is_starved (look_of p.world v.state) v.schedule ≡ true
IsCause p v (Limit Threads n) = (n ≡ p.limits.threads) × LacksThreads p v
IsCause p v Halted = ending v.state ≡ None
IsCause p v e = ⊥

-- ---- the history

-- It is a linked program with the built-in classes, and no thread of it begins pinned.
pub record IsAccepted (p : Setting) : Type 0 where
  pub library : HasLibrary p.world.program
  pub typed : IsTypedProgram p
  pub unpinned : BeginsUnpinned p

-- Each entry may stand where it stands. There are no more than the limit allows.
pub record IsLegal (m : Known) : Type 0 where
  pub accepted : IsAccepted m.setting
  pub some : 0 < m.carriers
  pub first : State
  pub begins : opening m.setting ≡ Some first
  pub after : Scheduled State
  pub runs : schedule_of (machine_from m.setting first) m.carriers m.history ≡ Some after
  pub few : length m.history ≤ m.setting.limits.events
  pub cause : ForSome m.told (IsCause m.setting after)

-- ---- while the run goes on

-- nothing was told, and the program hasn't ended
pub record GoesOn (m : Known) : Type 0 where
  pub told : m.told ≡ None
  pub going : Given m (λ v. ending v.state ≡ None)

-- the limit allows one entry more
abbrev pub HasEntryLeft : Known → Type 0
HasEntryLeft m = length m.history < m.setting.limits.events

-- the run wasn't given up, so that the state is there
abbrev pub Works : Known → Type 0
Works m = m.told ≡ Some Halted → ⊥

-- nothing has changed, and some thread can go on
pub record HasNotStalled (old new : Known) : Type 0 where
  pub same : new ≡ old
  pub going : Given old (λ v. is_stalled old.setting.world v.state ≡ false)

-- nothing has changed, and the carriers don't keep all others from going on
pub record HasNotStarved (old new : Known) : Type 0 where
  pub same : new ≡ old
  pub going : Given old (λ v. is_starved (look_of old.setting.world v.state) v.schedule ≡ false)
