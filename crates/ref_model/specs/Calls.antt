-- Invocations that aren't local (JVMS 6.5: invokevirtual, invokespecial, invokestatic, invokeinterface). Tests come in this order: null, the
-- class of the receiver, selection, the number of frames, the monitor. A call is stated by the descriptor that its instruction names.
use Rattle.std.specs.Prelude.{ℕ, suc, List, Option, Some, None, drop, nat_lt, slice_get, if◌then◌else◌}
use Rattle.items.specs.Options.{◌>>=◌}
use Rattle.opcodes.specs.declared.op.ValueKind.TheVariants as kinds
use Rattle.lib_table.specs.declared.native.Native.{Native}
use Rattle.link_rules.specs.declared.choice.Choice.{Choice}
use Rattle.link_rules.specs.declared.choice.Choice.TheVariants.{Method, Abstract, Several}
use Rattle.link_rules.specs.Members.{method_number}
use Rattle.instruction_rows.specs.declared.value.Slot.{Slot}
use Rattle.instruction_rows.specs.Rows.{Invocation, virtual, special, static, interface, dynamic}
use Rattle.instruction_rows.specs.SlotEffect.{popped}
use Rattle.link_model.specs.declared.members.MethodInfo.{MethodInfo}
use Rattle.link_model.specs.declared.members.MethodCode.{MethodCode}
use Rattle.link_model.specs.declared.sites.Resolution.{Resolution}
use Rattle.link_model.specs.declared.sites.SelectionFailure.{SelectionFailure}
use Rattle.link_model.specs.declared.sites.SelectionFailure.TheVariants as failures
use Rattle.link_model.specs.World.{World}
pub use Rattle.link_model.specs.Methods.{selecting_class, choice_of}
use Rattle.link_model.specs.Decoded.{code_at}
use Rattle.ref_model.specs.declared.exception.Exception.TheVariants as exceptions
use Rattle.ref_model.specs.Kinds.{argument_slots}
use Rattle.ref_model.specs.Members.{native_at, is_synchronized}
use Rattle.state_model.specs.Frames.{Frame}
use Rattle.ref_model.specs.Memory.{Memory}
use Rattle.ref_model.specs.Fetch.{Named, named_method}
use Rattle.ref_model.specs.Frames.{callee}
use Rattle.ref_model.specs.LocalRows.{most_frames}
use Rattle.ref_model.specs.Monitors.{method_monitor, with_monitor, reference_in}
use Rattle.ref_model.specs.Requests.{calls}
use Rattle.ref_model.specs.Effects.{Effect, invokes, throws, asks, on_instance}
use Rattle.ref_model.specs.NativeRows.{native_acted}
use Rattle.ref_model.specs.Natives.{native_row}

-- ---- the method that was selected runs

-- the receiver of the method that begins with this frame
abbrev pub receiver_of : Frame → Option ℕ
receiver_of g = slice_get g.locals 0 >>= reference_in

-- A synchronized method asks for its monitor, and begins when it has it (JVMS 2.11.10).
abbrev pub frame_entered : MethodInfo → Frame → List Slot → Option Effect
frame_entered m g rest =
    if is_synchronized m
    then (method_monitor m (receiver_of g) >>= λ o. Some (asks (calls o (with_monitor g o)) rest))
    else Some (invokes g rest)

-- a method with code: a thread has at most so many frames, of which it has this many
abbrev pub method_entered : World → ℕ → Named → MethodCode → ℕ → List Slot → Option Effect
method_entered w depth m code slots stack =
    if nat_lt depth most_frames
    then (callee m.number code slots stack >>= λ g. frame_entered m.method g (drop slots stack))
    else Some (throws exceptions.StackOverflowError)

-- without code it is abstract (JVMS 4.6)
abbrev pub code_entered : World → ℕ → Named → Option MethodCode → ℕ → List Slot → Option Effect
code_entered w depth m None slots stack = Some (throws exceptions.AbstractMethodError)
code_entered w depth m (Some code) slots stack = method_entered w depth m code slots stack

-- a native method runs without a frame
abbrev pub native_entered : World → Memory → ℕ → Named → Option Native → ℕ → List Slot → Option Effect
native_entered w r depth m None slots stack = code_entered w depth m (code_at w m.number) slots stack
native_entered w r depth m (Some native) slots stack = native_row w r native >>= λ row. native_acted row stack

-- the method takes so many slots
abbrev pub entered : World → Memory → ℕ → Named → ℕ → List Slot → Option Effect
entered w r depth m slots stack = native_entered w r depth m (native_at w m.number) slots stack

-- ---- selection (JVMS 5.4.6)

abbrev pub chosen : World → Choice → (ℕ → Option Effect) → Option Effect
chosen w (Method at) act = act (method_number w.program at)
chosen w Abstract act = Some (throws exceptions.AbstractMethodError)
chosen w Several act = Some (throws exceptions.IncompatibleClassChangeError)

-- what invokespecial selected when the program was linked (JVMS 6.5)
abbrev pub unless_failed : Option SelectionFailure → Option Effect → Option Effect
unless_failed None runs = runs
unless_failed (Some failures.Abstract) runs = Some (throws exceptions.AbstractMethodError)
unless_failed (Some failures.Several) runs = Some (throws exceptions.IncompatibleClassChangeError)

-- what runs for a receiver of this class
abbrev pub selected : World → Option SelectionFailure → Invocation → Named → ℕ → (ℕ → Option Effect) → Option Effect
selected w failure virtual m class act = choice_of w class m.number >>= λ choice. chosen w choice act
selected w failure (interface count) m class act = choice_of w class m.number >>= λ choice. chosen w choice act
selected w failure special m class act = unless_failed failure (act m.number)
selected w failure static m class act = None
selected w failure dynamic m class act = None

-- ---- calls

abbrev pub method_numbered : World → ℕ → Option Named
method_numbered w n = slice_get w.methods n >>= λ m. Some (record { number = n; method = m })

-- a method of an object, which lies below the arguments
abbrev pub instance_called : World → Resolution → Invocation → Named → Memory → ℕ → List Slot → Option Effect
instance_called w resolution invocation m r depth stack =
    let slots = argument_slots m.method.signature in
    popped kinds.Reference (drop slots stack) >>= λ x.
    on_instance w resolution r x.0 (λ o class. selected w resolution.failure invocation m class (λ n.
    method_numbered w n >>= λ chosen. entered w r depth chosen (suc slots) stack))

-- a method of a class
abbrev pub class_called : World → Named → Memory → ℕ → List Slot → Option Effect
class_called w m r depth stack = entered w r depth m (argument_slots m.method.signature) stack

abbrev pub called : World → Resolution → Invocation → Named → Memory → ℕ → List Slot → Option Effect
called w resolution static m r depth stack = class_called w m r depth stack
called w resolution dynamic m r depth stack = None
called w resolution invocation m r depth stack = instance_called w resolution invocation m r depth stack

abbrev pub invoked : World → Resolution → Invocation → Memory → ℕ → List Slot → Option Effect
invoked w resolution invocation r depth stack = named_method w resolution >>= λ m. called w resolution invocation m r depth stack
