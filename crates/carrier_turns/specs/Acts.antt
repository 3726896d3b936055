-- What a carrier does in its turn with its thread, time aside.
use Rattle.std.specs.Prelude.{◌≡◌, ◌<◌, ◌⊎◌, ℕ, true, false, List, [], ◌++◌, Some, None, is_some}
use Rattle.history.specs.declared.entry.Entry.{Entry}
use Rattle.ref_model.specs.declared.ending.Ending.TheVariants.{Halted}
use Rattle.ref_model.specs.State.{with_frames}
use Rattle.ref_model.specs.Looks.{lacks_threads_next}
use Rattle.continuation.specs.Continuation.{Continuation}
use Rattle.machine.specs.Machines.{Given, Known, machine_ending}
use Rattle.carrier_turns.specs.declared.hand.Hand.{Hand}
use Rattle.carrier_turns.specs.declared.ask.Turn.{Turn}
use Rattle.carrier_turns.specs.Turns.{AreActs, IsActDue, StallsAreTold, asked_by, goes_on, is_over, turns_left, wants_nothing}

-- the step of the mounted thread would make a thread too many
pub record StepLacks (m : Known) (h : Hand) : Type 0 where
  pub kept : Continuation
  pub mounted : h.mounted ≡ Some kept
  pub lacks : Given m (λ v. lacks_threads_next m.setting.world (with_frames v.state kept.thread kept.stack.frames) kept.thread ≡ true)

-- the run was given up, where nothing was appended, or the mount of an empty hand
abbrev pub IsGivenUpWith : Known → Hand → List Entry → Type 0
IsGivenUpWith new h entries = (new.told ≡ Some Halted) × ((entries ≡ []) ⊎ (h.mounted ≡ None))

pub record IsAct (old new : Known) (c now : ℕ) (h g : Hand) (answer : Turn) : Type 0 where
  pub entries : List Entry
  pub are_acts : AreActs c entries
  pub history : new.history ≡ old.history ++ entries
  pub setting : new.setting ≡ old.setting
  pub carriers : new.carriers ≡ old.carriers
  -- the run is over where there is an ending, and there alone
  pub over : is_over answer ≡ is_some (machine_ending new)
  pub asks : g.asked ≡ asked_by answer
  pub works : goes_on answer ≡ true → g.failed ≡ false
  -- it does what is due, unless memory or threads were wanting
  pub due : wants_nothing new.told ≡ true → IsActDue old new c now h answer
  pub stops : wants_nothing new.told ≡ false → IsGivenUpWith new h entries ⊎ StepLacks old h
  pub told : StallsAreTold old → StallsAreTold new
  pub nearer : goes_on answer ≡ true → turns_left new g < turns_left old h
