-- One step of a thread (JVMS 2.11, 6.5): an instruction, or a step of a phase. It is defined only where the thread is enabled.
use Rattle.std.specs.Prelude.{ℕ, List, [], ◌∷◌, Option, Some, None, length, slice_get, if◌then◌else◌}
use Rattle.items.specs.Options.{◌>>=◌}
use Rattle.opcodes.specs.declared.op.ValueKind.{ValueKind}
use Rattle.instruction_rows.specs.Rows.{Row, returns}
use Rattle.instruction_rows.specs.Table.{row as row_of}
use Rattle.vthread_state.specs.declared.phase.Phase.{Phase}
use Rattle.vthread_state.specs.declared.phase.Phase.TheVariants.{Run, Throwing, Entering, Waiting, Reenter, Parked, Asleep, Joining}
use Rattle.vthread_state.specs.declared.thread.Status.{Status}
use Rattle.vthread_state.specs.declared.thread.Status.TheVariants.{New, Live, Done}
use Rattle.link_model.specs.World.{World}
use Rattle.verify_types.specs.Environment.{Instruction}
use Rattle.state_model.specs.Frames.{Frame}
use Rattle.ref_model.specs.declared.exception.Exception.TheVariants as exceptions
use Rattle.ref_model.specs.Setting.{Setting}
use Rattle.ref_model.specs.State.{State, with_memory, with_frames}
use Rattle.ref_model.specs.Fetch.{fetched}
use Rattle.ref_model.specs.Frames.{behind, is_root, returned}
use Rattle.ref_model.specs.Monitors.{owns, with_exit, is_synchronized_frame, frame_monitor}
use Rattle.ref_model.specs.LocalRows.{row}
use Rattle.ref_model.specs.Effects.{Effect, done, invokes, throws, throws_object, asks}
pub use Rattle.ref_model.specs.RowEffects.{event_effect, division_effect, row_effect}
use Rattle.ref_model.specs.Throwing.{raised, throwing, throwing_step, finished}
use Rattle.ref_model.specs.Requesting.{asked, asked_with}
use Rattle.ref_model.specs.Resuming.{resumed_or_thrown, park_over, entered_monitor, reentered, asking_at}
pub use Rattle.ref_model.specs.Enabled.{can_go_on, is_ready, enabled}

-- ---- what an effect makes of the state and of the thread's frames

abbrev pub after_effect : World → State → ℕ → ℕ → Frame → List Frame → Effect → Option State
after_effect w r t next f below (done memory stack) =
    behind f next stack >>= λ g. Some (with_frames (with_memory r memory) t (g ∷ below))
after_effect w r t next f below (invokes g stack) = Some (with_frames r t (g ∷ record f { stack = stack } ∷ below))
after_effect w r t next f below (throws e) = raised w r t e
after_effect w r t next f below (throws_object o) = Some (throwing r t o)
after_effect w r t next f below (asks q stack) = asked w r t (record { frame = f; below = below; next = next; stack = stack }) q

-- ---- returns that aren't local

-- With the bottom frame the thread is done; below the frame of a class initializer the next one begins.
abbrev pub root_left : State → ℕ → List Frame → State
root_left r t [] = finished r t
root_left r t (f ∷ below) = with_frames r t (f ∷ below)

-- from a frame that holds no monitor any more
abbrev pub frame_returned : World → State → ℕ → Option ValueKind → Frame → List Frame → Option State
frame_returned w r t kind f below =
    if is_root w f below then Some (root_left r t below)
    else (returned w kind f below >>= λ frames. Some (with_frames r t frames))

-- A synchronized method leaves its monitor, or throws IllegalMonitorStateException where the thread doesn't own it (JVMS 2.11.10).
abbrev pub monitor_returned : World → State → ℕ → Option ValueKind → Frame → List Frame → ℕ → Option State
monitor_returned w r t kind f below o =
    if owns r t o then frame_returned w (with_exit r o) t kind f below
    else raised w r t exceptions.IllegalMonitorStateException

abbrev pub return_event : World → State → ℕ → Option ValueKind → Frame → List Frame → Option State
return_event w r t kind f below =
    if is_synchronized_frame w f then (frame_monitor w f >>= monitor_returned w r t kind f below)
    else frame_returned w r t kind f below

-- ---- events

abbrev pub row_event : World → Instruction → Row → State → ℕ → Frame → List Frame → Option State
row_event w i (returns kind) r t f below = return_event w r t kind f below
row_event w i act r t f below =
    row_effect w i act r.memory (length (f ∷ below)) f >>= after_effect w r t i.instr.next f below

-- the event at the top frame's pc
abbrev pub event_step : World → State → ℕ → List Frame → Option State
event_step w r t [] = None
event_step w r t (f ∷ below) = fetched w f >>= λ i. row_event w i (row_of i.instr.op) r t f below

-- ---- steps

-- a local instruction where the top frame is at one, and an event elsewhere
abbrev pub row_or_event : World → State → ℕ → List Frame → Option (List Frame) → Option State
row_or_event w r t frames (Some after) = Some (with_frames r t after)
row_or_event w r t frames None = event_step w r t frames

-- the phases of a live thread, where it is enabled
abbrev pub phase_step : World → State → ℕ → List Frame → Phase → Option State
phase_step w r t frames Run = row_or_event w r t frames (row w frames)
phase_step w r t frames (Throwing o) = throwing_step w r t o frames
phase_step w r t frames (Entering o) = entered_monitor w r t o frames
phase_step w r t frames (Waiting o count deadline) = None
phase_step w r t frames (Reenter o count wake) = reentered w r t o count wake frames
phase_step w r t frames (Parked deadline) = park_over w r t frames
phase_step w r t frames (Asleep deadline) = resumed_or_thrown w r t frames
phase_step w r t frames (Joining u deadline) = resumed_or_thrown w r t frames

abbrev pub status_step : World → State → ℕ → List Frame → Status → Option State
status_step w r t frames New = None
status_step w r t frames (Live phase) = phase_step w r t frames phase
status_step w r t frames Done = None

abbrev pub thread_step : World → State → ℕ → Option State
thread_step w r t = slice_get r.threads t >>= λ thread. status_step w r t thread.frames thread.thread.status

-- a step that picks a thread, which is a notify
abbrev pub picking_step : World → State → ℕ → ℕ → Option State
picking_step w r t u = asking_at w r t >>= λ x. asked_with r t x.1 u x.0

-- One step of thread t. A notify picks one of the threads that wait on its monitor, where there is one; every other step picks none.
abbrev pub step : Setting → State → ℕ → Option ℕ → Option State
step p r t (Some pick) = if enabled r t then picking_step p.world r t pick else None
step p r t None = if enabled r t then thread_step p.world r t else None
