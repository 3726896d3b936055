-- What the replay of a legal history comes to.
use Rattle.std.specs.Prelude.{◌≡◌, ℕ, List, Some, Result, Ok, Err}
use Rattle.history.specs.declared.entry.Entry.{Entry}
use Rattle.schedule_model.specs.Run.{Scheduled, schedule_of}
use Rattle.ref_model.specs.Looks.{machine_from}
use Rattle.ref_model.specs.Opening.{opening}
use Rattle.ref_model.specs.Setting.{Setting}
use Rattle.ref_model.specs.State.{State}
use Rattle.ref_run.specs.declared.replaying.ReplayError.{ReplayError}
use Rattle.ref_run.specs.declared.replaying.ReplayError.TheVariants as errors
use Rattle.ref_run.specs.declared.state.RefState.{RefState}
use Rattle.ref_run.specs.Replays.{IsReplayed}
use Rattle.ref_run.specs.States.{state_of}

-- It comes to this state, unless memory runs out.
abbrev pub ComesTo : State → Result RefState ReplayError → Type 0
ComesTo r (Ok a) = state_of a ≡ r
ComesTo r (Err (errors.NoStep i)) = ⊥
ComesTo r (Err errors.NoMemory) = Unit {0}

-- After a legal history of any number of carriers the program has the state that a replay of it comes to.
abbrev pub ReplaysAgree : Type 0
ReplaysAgree = (p : Setting) (first : State) (carriers : ℕ) (history : List Entry) (after : Scheduled State) (result : Result RefState ReplayError) →
    opening p ≡ Some first → schedule_of (machine_from p first) carriers history ≡ Some after → IsReplayed p history result → ComesTo after.state result
