-- What a replay comes to.
use Rattle.std.specs.Prelude.{◌≡◌, ◌<◌, ℕ, suc, List, Some, None, Result, Ok, Err, length, take}
use Rattle.history.specs.declared.entry.Entry.{Entry}
use Rattle.history.specs.Java.{java}
use Rattle.ref_model.specs.Run.{run}
use Rattle.ref_model.specs.Setting.{Setting}
use Rattle.ref_model.specs.State.{State}
use Rattle.ref_run.specs.declared.fault.Fault.{Fault}
use Rattle.ref_run.specs.declared.fault.Fault.TheVariants as faults
use Rattle.ref_run.specs.declared.replaying.ReplayError.{ReplayError}
use Rattle.ref_run.specs.declared.replaying.ReplayError.TheVariants as errors
use Rattle.ref_run.specs.declared.state.RefState.{RefState}
use Rattle.ref_run.specs.States.{state_of}

-- The entries before the one at an index are defined of the opening, and with it they aren't.
pub record StopsAt (p : Setting) (list : List Entry) (i : ℕ) : Type 0 where
  pub there : i < length list
  pub before : State
  pub runs : run p (java (take i list)) ≡ Some before
  pub stops : run p (java (take (suc i) list)) ≡ None

-- why the list stops at an entry
abbrev pub stopped_at : ℕ → Fault → ReplayError
stopped_at i faults.NoStep = errors.NoStep i
stopped_at i faults.NoMemory = errors.NoMemory

-- the same of a run of the list from the opening on, after which the state is this one
abbrev pub IsRunOf : Setting → List Entry → Result (Unit {0}) ReplayError → RefState → Type 0
IsRunOf p list (Ok x) a = run p (java list) ≡ Some (state_of a)
IsRunOf p list (Err (errors.NoStep i)) a = StopsAt p list i
IsRunOf p list (Err errors.NoMemory) a = Unit {0}

-- the state after the list; or the first entry that isn't defined
abbrev pub IsReplayed : Setting → List Entry → Result RefState ReplayError → Type 0
IsReplayed p list (Ok a) = run p (java list) ≡ Some (state_of a)
IsReplayed p list (Err (errors.NoStep i)) = StopsAt p list i
IsReplayed p list (Err errors.NoMemory) = Unit {0}
