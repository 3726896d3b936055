-- What a machine keeps of pins (JEP 444).
use Rattle.std.specs.Prelude.{◌≡◌, ◌⊎◌, ℕ, Bool, true, false, List, Option, Some, get_or, length, nat_lt, slice_get}
use Rattle.link_model.specs.World.{World}
use Rattle.state_model.specs.Frames.{Frame}
use Rattle.schedule_model.specs.Look.{Look, in_no_list}
use Rattle.ref_model.specs.Looks.{look_of, pins_of, spot_of}
use Rattle.ref_model.specs.State.{JavaThread, State}
use Rattle.program_state.specs.declared.state.ProgramState.{ProgramState}
use Rattle.program_state.specs.States.{IsState}
use Rattle.machine.specs.declared.made.StepResult.{StepResult}
use Rattle.machine.specs.declared.made.StepResult.TheVariants as results
use Rattle.machine.specs.Machines.{Given, Known}

-- the thread may step, and no other thread changes that
abbrev pub GoesFreely : Look → ℕ → Type 0
GoesFreely l t = (l.enabled t ≡ true) × (l.spot t ≡ in_no_list)

-- While the program goes on, these are by carrier whether the thread that it has mounted is pinned, for each that doesn't just go on.
abbrev pub ArePins : Look → List (Option ℕ) → List Bool → Type 0
ArePins l mounted pins = l.ended ≡ false → (c t : ℕ) → slice_get mounted c ≡ Some (Some t) → GoesFreely l t ⊎ (get_or pins c false ≡ l.pinned t)

-- so it is after the history
pub record KnowsPins (m : Known) (pins : List Bool) : Type 0 where
  pub sizes : length pins ≡ m.carriers
  pub known : Given m (λ v. ArePins (look_of m.setting.world v.state) v.schedule.mounted pins)

-- ---- what is noted after a step

-- the thread is in no list of a monitor
abbrev pub IsInNoList : ProgramState → ℕ → Type 0
IsInNoList state t = (r : State) (out : ℕ → Bool) → IsState state r out → (x : JavaThread) → slice_get r.threads t ≡ Some x →
    spot_of x.thread.status ≡ in_no_list

-- Of a thread with these frames this is noted for its carrier: whether it is pinned, unless it just goes on. One that has to leave, or has
-- ended, isn't. Without a step nothing is noted.
abbrev pub NotesOwn : World → ProgramState → ℕ → List Frame → StepResult → ℕ → List Bool → List Bool → Type 0
NotesOwn w state t frames results.Goes c old new = IsInNoList state t ⊎ (get_or new c false ≡ nat_lt 0 (pins_of w frames))
NotesOwn w state t frames (results.Notifies u) c old new = IsInNoList state t ⊎ (get_or new c false ≡ nat_lt 0 (pins_of w frames))
NotesOwn w state t frames results.Waits c old new = get_or new c false ≡ true
NotesOwn w state t frames results.Leaves c old new = get_or new c false ≡ false
NotesOwn w state t frames results.Ends c old new = get_or new c false ≡ false
NotesOwn w state t frames results.Runs c old new = Unit {0}
NotesOwn w state t frames made c old new = new ≡ old
