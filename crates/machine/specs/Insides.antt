-- What the parts of a machine have to do with its history.
use Rattle.std.specs.Prelude.{◌≡◌, ◌-◌, ◌≤◌, ◌<◌, ℕ, Bool, List, Option, Some, length, nat_lt, slice_get, vec_capacity}
use Rattle.continuation.specs.Continuation.{Continuation}
use Rattle.std.specs.Option.{ForSome}
use Rattle.history.specs.declared.entry.Entry.{Entry}
use Rattle.thread_lists.specs.Lists.{Lists}
use Rattle.schedule_model.specs.Schedule.{Schedule, on_carriers}
use Rattle.schedule_model.specs.Run.{Scheduled, schedule_of}
use Rattle.ref_model.specs.declared.ending.Ending.{Ending}
use Rattle.ref_model.specs.declared.ending.Ending.TheVariants.{Halted}
use Rattle.ref_model.specs.Setting.{Setting}
use Rattle.ref_model.specs.State.{State}
use Rattle.ref_model.specs.Opening.{opening}
use Rattle.ref_model.specs.Looks.{machine_from}
pub use Rattle.startup.specs.Openings.{setting}
use Rattle.program_state.specs.declared.state.ProgramState.{ProgramState}
use Rattle.program_state.specs.States.{IsState}
use Rattle.machine.specs.declared.machine.Machine.TheInside.{Inside}
use Rattle.machine.specs.Legal.{IsAccepted, IsCause}
use Rattle.machine.specs.Lists.{HasLists}
use Rattle.machine.specs.Machines.{Known}
use Rattle.machine.specs.Pins.{KnowsPins}

-- some carrier has the thread mounted
abbrev pub is_out : Schedule → ℕ → Bool
is_out s t = nat_lt 0 (on_carriers t s)

-- the frames of the thread lie with those that no carrier runs
pub record IsFrozen (frozen : List (Option Continuation)) (t : ℕ) : Type 0 where
  pub kept : Continuation
  pub at : slice_get frozen t ≡ Some (Some kept)

-- These parts are those of the program and its schedule, which has so many carriers.
pub record AreParts (n : ℕ) (a : ProgramState) (d : Lists) (on : List (Option ℕ)) (v : Scheduled State) : Type 0 where
  pub state : IsState a v.state (is_out v.schedule)
  pub lists : HasLists a.monitors v.schedule
  pub deques : d.lists ≡ v.schedule.deques
  pub room : length v.state.threads ≤ d.threads
  pub mounted : on ≡ v.schedule.mounted
  pub carriers : length v.schedule.deques ≡ n

-- The history is legal, and unless the run was given up the parts are those of what it gives.
pub record IsConsistent (p : Setting) (carriers : ℕ) (state : ProgramState) (deques : Lists) (mounted : List (Option ℕ)) (history : List Entry)
    (told : Option Ending) : Type 0 where
  pub accepted : IsAccepted p
  pub some : 0 < carriers
  pub first : State
  pub begins : opening p ≡ Some first
  pub after : Scheduled State
  pub runs : schedule_of (machine_from p first) carriers history ≡ Some after
  pub few : length history ≤ p.limits.events
  pub cause : ForSome told (IsCause p after)
  pub parts : (told ≡ Some Halted → ⊥) → AreParts carriers state deques mounted after

-- ---- a machine by its fields

abbrev pub setting_in : Inside → Setting
setting_in a = setting a.program.now a.main a.limits

abbrev pub known : Inside → Known
known a = record {
  setting = setting_in a;
  carriers = a.carriers;
  history = a.history.items;
  spare = vec_capacity a.history - length a.history.items;
  told = a.told;
}

pub record IsSound (a : Inside) : Type 0 where
  pub sound : IsConsistent (setting_in a) a.carriers a.state a.deques a.mounted.items a.history.items a.told
  pub pins : KnowsPins (known a) a.pins.items
