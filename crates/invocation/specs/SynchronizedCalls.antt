-- Calls of synchronized methods (JVMS 2.11.10): what they ask for, and how they begin.
use Rattle.std.specs.Prelude.{ℕ, zero, suc, ◌≡◌, ◌<◌, List, ◌∷◌, Option, Some, None, drop, length, slice_get}
use Rattle.items.specs.Options.{◌>>=◌}
use Rattle.instruction_rows.specs.declared.value.Slot.{Slot}
use Rattle.link_model.specs.World.{World}
use Rattle.continuation.specs.Continuation.{Continuation}
use Rattle.state_model.specs.Frames.{Frame}
use Rattle.frames.specs.Frames.{with_stack}
use Rattle.ref_model.specs.Effects.{asks, throws}
use Rattle.ref_model.specs.LocalRows.{most_frames}
use Rattle.ref_model.specs.Monitors.{reference_in, with_monitor}
use Rattle.ref_model.specs.Requests.{calls}
use Rattle.heap_instructions.specs.Operands.{operands}
use Rattle.invocation.specs.declared.synchronized_calls.Asked.{Asked}
use Rattle.invocation.specs.declared.synchronized_calls.Asked.TheVariants as asking
use Rattle.invocation.specs.declared.synchronized_calls.SynchronizedCall.{SynchronizedCall}
use Rattle.invocation.specs.declared.target.Callee.{Callee}
use Rattle.invocation.specs.Targets.{begins_synchronized, callee_frame}

-- the receiver of a method that takes so many slots from this operand stack
abbrev pub receiver_in : ℕ → List Slot → Option ℕ
receiver_in zero stack = None
receiver_in (suc n) stack = slice_get stack n >>= reference_in

-- It asks for this monitor, with a frame that is to begin, and its thread may have one more frame.
pub record AsksForMonitor (w : World) (c : Callee) (m : Continuation) (call : SynchronizedCall) : Type 0 where
  pub callee : call.callee ≡ c
  pub frame : Frame
  pub begins : callee_frame c (operands m) ≡ Some frame
  pub few : length m.stack.frames < most_frames
  pub effect : begins_synchronized w (length m.stack.frames) c (operands m)
      ≡ Some (asks (calls call.monitor (with_monitor frame call.monitor)) (drop c.slots (operands m)))

-- what a call of a synchronized method comes to
abbrev pub IsAsked : World → Callee → Continuation → Asked → Type 0
IsAsked w c m (asking.Calls call) = AsksForMonitor w c m call
IsAsked w c m (asking.Throws e) = begins_synchronized w (length m.stack.frames) c (operands m) ≡ Some (throws e)

-- Its frame lies over the caller's, which has the operands that are left, and holds the monitor.
abbrev pub IsBegun : SynchronizedCall → Continuation → Continuation → Type 0
IsBegun call old new = (g : Frame) → callee_frame call.callee (operands old) ≡ Some g →
    new.stack.frames ≡ with_monitor g call.monitor ∷ with_stack (drop call.callee.slots (operands old)) old.stack.frames
