-- What an invocation comes to.
use Rattle.std.specs.Prelude.{ℕ, suc, ◌≡◌, ◌-◌, ◌++◌, true, false, List, [], Option, Some, None, drop, length, nat_le, nat_lt, replicate, reverse, slice_get, take, if◌then◌else◌}
use Rattle.items.specs.Options.{◌>>=◌}
use Rattle.lib_table.specs.declared.native.Native.{Native}
use Rattle.instruction_rows.specs.declared.value.Slot.{Slot}
use Rattle.instruction_rows.specs.declared.value.Slot.TheVariants.{Second}
use Rattle.instruction_rows.specs.Rows.{Row, invoke}
use Rattle.link_model.specs.declared.members.MethodCode.{MethodCode}
use Rattle.link_model.specs.declared.members.MethodInfo.{MethodInfo}
use Rattle.link_model.specs.declared.sites.Resolution.{Resolution}
use Rattle.link_model.specs.declared.sites.SelectionFailure.{SelectionFailure}
use Rattle.link_model.specs.Decoded.{code_at}
use Rattle.link_model.specs.World.{World}
use Rattle.heap_objs.specs.Heap.{Heap}
use Rattle.continuation.specs.Continuation.{Continuation}
use Rattle.ref_model.specs.Memory.{Memory}
use Rattle.state_model.specs.Frames.{Frame}
use Rattle.ref_model.specs.declared.exception.Exception.TheVariants as exceptions
use Rattle.ref_model.specs.Effects.{Effect, asks, invokes, throws}
use Rattle.ref_model.specs.Fetch.{method_of}
use Rattle.ref_model.specs.Monitors.{method_monitor, with_monitor}
use Rattle.ref_model.specs.Requests.{calls}
use Rattle.ref_model.specs.Kinds.{argument_slots}
use Rattle.ref_model.specs.LocalRows.{has_local_call, most_frames}
use Rattle.ref_model.specs.NativeRows.{native_acted}
use Rattle.ref_model.specs.Natives.{native_row}
use Rattle.ref_model.specs.Calls.{choice_of, chosen, entered, invoked, method_numbered, receiver_of, unless_failed}
use Rattle.heap_instructions.specs.Operands.{operands}
use Rattle.heap_instructions.specs.Outcomes.{with_heap}
use Rattle.invocation.specs.Arguments.{takes_double}
use Rattle.invocation.specs.declared.receivers.Receiver.{Receiver}
use Rattle.invocation.specs.Receivers.{on_receiver, tested}
use Rattle.invocation.specs.declared.target.Callee.{Callee}
use Rattle.invocation.specs.declared.target.Target.{Target}
use Rattle.invocation.specs.declared.target.Target.TheVariants as targets

-- what a native method does
abbrev pub native_effect : World → Memory → Native → List Slot → Option Effect
native_effect w r native stack = native_row w r native >>= λ row. native_acted row stack

-- the frame of a method that begins, with these slots in its first local variables, and all others unset (JVMS 2.6.1)
abbrev pub sized_frame : Callee → List Slot → Option Frame
sized_frame c slots =
    if nat_le (length slots) c.locals
    then Some (record {
      method = c.method;
      pc = 0;
      locals = slots ++ replicate (c.locals - length slots) Second;
      stack = [];
      room = c.operands;
    })
    else None

-- the same with the slots that it takes from this operand stack
abbrev pub callee_frame : Callee → List Slot → Option Frame
callee_frame c stack = if nat_le c.slots (length stack) then sized_frame c (reverse (take c.slots stack)) else None

-- what a call of it does in a thread of so many frames
abbrev pub begins : ℕ → Callee → List Slot → Option Effect
begins depth c stack =
    if nat_lt depth most_frames
    then (callee_frame c stack >>= λ g. Some (invokes g (drop c.slots stack)))
    else Some (throws exceptions.StackOverflowError)

-- the monitor of a synchronized method that begins with this frame: that of its receiver, or of its class
abbrev pub callee_monitor : World → Frame → Option ℕ
callee_monitor w g = slice_get w.methods g.method >>= λ m. method_monitor m (receiver_of g)

-- what a call of such a method asks for, with the operands that are left (JVMS 2.11.10)
abbrev pub asks_to_begin : World → List Slot → Frame → Option Effect
asks_to_begin w rest g = callee_monitor w g >>= λ o. Some (asks (calls o (with_monitor g o)) rest)

-- what a call of it does in a thread of so many frames
abbrev pub begins_synchronized : World → ℕ → Callee → List Slot → Option Effect
begins_synchronized w depth c stack =
    if nat_lt depth most_frames
    then (callee_frame c stack >>= asks_to_begin w (drop c.slots stack))
    else Some (throws exceptions.StackOverflowError)

-- what holds of the method with code that a target is, where it is one
abbrev pub IfCode : Target → (Callee → Type 0) → Type 0
IfCode (targets.Code callee) holds = holds callee
IfCode (targets.Pins callee) holds = holds callee
IfCode (targets.Synchronized callee) holds = holds callee
IfCode target holds = Unit {0}

-- A target is that of this effect.
abbrev pub Gives : World → Memory → ℕ → List Slot → Option Effect → Target → Type 0
Gives w r depth stack effect (targets.Native native) = effect ≡ native_effect w r native stack
Gives w r depth stack effect (targets.Code callee) = effect ≡ begins depth callee stack
Gives w r depth stack effect (targets.Pins callee) = effect ≡ begins depth callee stack
Gives w r depth stack effect (targets.Synchronized callee) = effect ≡ begins_synchronized w depth callee stack
Gives w r depth stack effect (targets.Throws e) = effect ≡ Some (throws e)
Gives w r depth stack effect targets.Undefined = effect ≡ None

-- the method with a number runs, and takes so many slots
abbrev pub numbered_effect : World → Memory → ℕ → ℕ → ℕ → List Slot → Option Effect
numbered_effect w r depth n slots stack = method_numbered w n >>= λ m. entered w r depth m slots stack

abbrev pub IsNumbered : World → ℕ → ℕ → Target → Type 0
IsNumbered w n slots target = (r : Memory) (depth : ℕ) (stack : List Slot) → Gives w r depth stack (numbered_effect w r depth n slots stack) target

-- A method with code that begins as a local instruction where an invokestatic names it, and takes so many slots.
pub record IsLocalCallee (w : World) (n slots : ℕ) (c : Callee) : Type 0 where
  pub method : MethodInfo
  pub at : slice_get w.methods n ≡ Some method
  pub local : has_local_call w (record { number = n; method = method }) ≡ true
  pub code : MethodCode
  pub has : code_at w n ≡ Some code
  pub is : c ≡ record { method = n; slots = slots; locals = code.max_locals; operands = code.max_stack }

abbrev pub IsLocalCode : World → ℕ → ℕ → Target → Type 0
IsLocalCode w n slots (targets.Code c) = IsLocalCallee w n slots c
IsLocalCode w n slots target = Unit {0}

-- an invokestatic that names it, with its arguments, of which none is a double
pub record IsStaticCallee (w : World) (resolution : Resolution) (c : Callee) : Type 0 where
  pub number : ℕ
  pub named : method_of resolution.site ≡ Some number
  pub slots : ℕ
  pub callee : IsLocalCallee w number slots c
  pub takes : slots ≡ argument_slots callee.method.signature
  pub plain : takes_double callee.method.signature ≡ false

-- that which is selected for a receiver of this class runs
abbrev pub selected_effect : World → Memory → ℕ → ℕ → ℕ → ℕ → List Slot → Option Effect
selected_effect w r depth class n slots stack =
    choice_of w class n >>= λ choice. chosen w choice (λ k. numbered_effect w r depth k slots stack)

abbrev pub IsSelected : World → ℕ → ℕ → ℕ → Target → Type 0
IsSelected w class n slots target = (r : Memory) (depth : ℕ) (stack : List Slot) → Gives w r depth stack (selected_effect w r depth class n slots stack) target

-- that which is selected for this receiver runs, where it is an instance of the class that the instruction names
abbrev pub received_effect : World → Memory → ℕ → Receiver → ℕ → ℕ → List Slot → Option Effect
received_effect w r depth receiver n slots stack =
    tested w receiver (λ class. selected_effect w r depth class n slots stack)

abbrev pub IsReceived : World → Receiver → ℕ → ℕ → Target → Type 0
IsReceived w receiver n slots target = (r : Memory) (depth : ℕ) (stack : List Slot) →
    Gives w r depth stack (received_effect w r depth receiver n slots stack) target

-- invokevirtual or invokeinterface, and invokespecial, of a method that takes so many slots without its receiver
abbrev pub virtual_effect : World → Resolution → ℕ → ℕ → Memory → ℕ → List Slot → Option Effect
virtual_effect w resolution n slots r depth stack =
    on_receiver w resolution slots r stack (λ class. selected_effect w r depth class n (suc slots) stack)

abbrev pub IsVirtual : World → Resolution → ℕ → ℕ → Heap → Continuation → Target → Type 0
IsVirtual w resolution n slots heap m target = (r : Memory) (depth : ℕ) →
    Gives w (with_heap heap r) depth (operands m) (virtual_effect w resolution n slots (with_heap heap r) depth (operands m)) target

abbrev pub special_effect : World → Resolution → ℕ → ℕ → Memory → ℕ → List Slot → Option Effect
special_effect w resolution n slots r depth stack =
    on_receiver w resolution slots r stack (λ class. unless_failed resolution.failure (numbered_effect w r depth n (suc slots) stack))

-- what invokespecial selected when the program was linked
abbrev pub IsLinkedTarget : World → Option SelectionFailure → ℕ → ℕ → Target → Type 0
IsLinkedTarget w failure n slots target = (r : Memory) (depth : ℕ) (stack : List Slot) →
    Gives w r depth stack (unless_failed failure (numbered_effect w r depth n slots stack)) target

abbrev pub IsSpecial : World → Resolution → ℕ → ℕ → Heap → Continuation → Target → Type 0
IsSpecial w resolution n slots heap m target = (r : Memory) (depth : ℕ) →
    Gives w (with_heap heap r) depth (operands m) (special_effect w resolution n slots (with_heap heap r) depth (operands m)) target

-- what an invocation does
abbrev pub row_invoked : World → Resolution → Row → Memory → ℕ → List Slot → Option Effect
row_invoked w resolution (invoke invocation index) r depth stack = invoked w resolution invocation r depth stack
row_invoked w resolution row r depth stack = None

abbrev pub IsInvoked : World → Resolution → Row → Heap → Continuation → Target → Type 0
IsInvoked w resolution row heap m target = (r : Memory) (depth : ℕ) →
    Gives w (with_heap heap r) depth (operands m) (row_invoked w resolution row (with_heap heap r) depth (operands m)) target
