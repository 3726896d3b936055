-- How a thread goes on that waited: its instruction, which asked something, is looked at again, and asks the same, since neither operands nor
-- classes have changed. Then it is finished.
use Rattle.std.specs.Prelude.{ℕ, ◌==◌, Bool, false, List, [], ◌∷◌, Option, Some, None, length, nat_lt, ◌&&◌, if◌then◌else◌}
use Rattle.std.specs.Option.{option_map_or}
use Rattle.items.specs.Options.{◌>>=◌}
use Rattle.opcodes.specs.declared.op.ValueKind.{ValueKind}
use Rattle.instruction_rows.specs.Table.{row as row_of}
use Rattle.vthread_state.specs.declared.phase.Wake.{Wake}
use Rattle.vthread_state.specs.declared.phase.Wake.TheVariants.{Notified, TimedOut, Interrupted}
use Rattle.link_model.specs.World.{World}
use Rattle.state_model.specs.Frames.{Frame}
use Rattle.ref_model.specs.Memory.{Memory}
use Rattle.ref_model.specs.State.{State, with_permit, with_owner, is_interrupted, frames_at}
use Rattle.ref_model.specs.Fetch.{fetched}
use Rattle.ref_model.specs.Monitors.{class_monitors, with_entry}
use Rattle.ref_model.specs.Effects.{Effect, asks}
use Rattle.ref_model.specs.Requests.{Request, request_result, calls}
use Rattle.ref_model.specs.RowEffects.{row_effect}
use Rattle.ref_model.specs.Asking.{Asking, goes, goes_into, with_run, thrown_interrupted}

-- ---- what the instruction at hand asks

abbrev pub asking_by : Frame → List Frame → ℕ → Effect → Option (Request × Asking)
asking_by f below next (asks q stack) = Some (q, record { frame = f; below = below; next = next; stack = stack })
asking_by f below next effect = None

-- the instruction of these frames, in this memory, where it asks something
abbrev pub asking_in : World → Memory → List Frame → Option (Request × Asking)
asking_in w memory [] = None
asking_in w memory (f ∷ below) =
    fetched w f >>= λ i.
    row_effect w i (row_of i.instr.op) memory (length (f ∷ below)) f >>= asking_by f below i.instr.next

-- ---- a wait that is over

-- what gives something back never waits
abbrev pub finished_without : State → ℕ → Asking → Option ValueKind → Option State
finished_without r t a None = goes r t a
finished_without r t a (Some kind) = None

-- a call goes into the method, and every other instruction on to the next one
abbrev pub finished_asking : State → ℕ → Asking → Request → Option State
finished_asking r t a (calls o g) = goes_into r t a g
finished_asking r t a q = finished_without r t a (request_result q)

abbrev pub resumed : World → State → ℕ → List Frame → Option State
resumed w r t frames = asking_in w r.memory frames >>= λ x. finished_asking (with_run r t) t x.1 x.0

-- of sleep and join: an interrupt is told
abbrev pub resumed_or_thrown : World → State → ℕ → List Frame → Option State
resumed_or_thrown w r t frames = if is_interrupted r t then thrown_interrupted w r t else resumed w r t frames

-- of park: the permit is taken, if there is one, and an interrupt stays
abbrev pub park_over : World → State → ℕ → List Frame → Option State
park_over w r t frames = resumed w (with_permit r t false) t frames

-- ---- a monitor is taken

-- Whether the frames are those of a thread that was started with a synchronized method: its first frame hasn't begun, and waits for the
-- monitor of an object. No instruction at pc 0 has an operand, so none there waits for such a monitor.
abbrev pub is_first_entry : ℕ → List Frame → Bool
is_first_entry o [] = false
is_first_entry o (f ∷ below) = f.pc == 0 && nat_lt o class_monitors

-- the state has the monitor with the thread
abbrev pub entered_with : World → State → ℕ → ℕ → List Frame → Option State
entered_with w r t o frames = if is_first_entry o frames then Some (with_run r t) else resumed w r t frames

abbrev pub entered_monitor : World → State → ℕ → ℕ → List Frame → Option State
entered_monitor w r t o frames = entered_with w (with_entry r t o) t o frames

-- after a wait the monitor is entered as often as before it (Object.wait)
abbrev pub waited : World → State → ℕ → Wake → List Frame → Option State
waited w r t Notified frames = resumed w r t frames
waited w r t TimedOut frames = resumed w r t frames
waited w r t Interrupted frames = thrown_interrupted w r t

abbrev pub reentered : World → State → ℕ → ℕ → ℕ → Wake → List Frame → Option State
reentered w r t o count wake frames = waited w (with_owner r o (Some (record { thread = t; count = count }))) t wake frames

-- ---- what the next step of a thread asks, where it is an instruction

abbrev pub asking_at : World → State → ℕ → Option (Request × Asking)
asking_at w r t = frames_at r t >>= asking_in w r.memory

abbrev pub next_asks : World → State → ℕ → (Request → Bool) → Bool
next_asks w r t test = option_map_or (λ (x : Request × Asking). test x.0) (asking_at w r t) false
