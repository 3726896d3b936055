-- The class of the receiver of an invocation.
use Rattle.std.specs.Prelude.{ℕ, ◌≡◌, List, Option, Some, None, Result, Ok, Err, drop, if◌then◌else◌}
use Rattle.items.specs.Options.{◌>>=◌}
use Rattle.opcodes.specs.declared.op.ValueKind.TheVariants as kinds
use Rattle.instruction_rows.specs.declared.value.Slot.{Slot}
use Rattle.instruction_rows.specs.SlotEffect.{popped}
use Rattle.continuation.specs.Continuation.{Continuation}
use Rattle.link_model.specs.declared.sites.Resolution.{Resolution}
use Rattle.link_model.specs.World.{World}
use Rattle.heap_objs.specs.Heap.{Heap}
use Rattle.ref_model.specs.declared.exception.Exception.{Exception}
use Rattle.ref_model.specs.Memory.{Memory}
use Rattle.ref_model.specs.Classes.{is_sub}
use Rattle.ref_model.specs.Effects.{Effect, late_failure, throws, on_instance}
use Rattle.heap_instructions.specs.Operands.{operands}
use Rattle.heap_instructions.specs.Outcomes.{with_heap}
use Rattle.invocation.specs.declared.receivers.Receiver.{Receiver}

-- what is done with the class of a receiver, where it is an instance of the class that the instruction names
abbrev pub tested : World → Receiver → (ℕ → Option Effect) → Option Effect
tested w receiver act =
    if is_sub w receiver.class receiver.named then act receiver.class else Some (throws (late_failure w receiver.named))

-- Where the receiver is known, the invocation does what it does for it; otherwise it throws this exception, or has no effect.
abbrev pub ReceiverGives : World → (ℕ → Option Effect) → Option Effect → Option (Result Receiver Exception) → Type 0
ReceiverGives w act effect (Some (Ok receiver)) = effect ≡ tested w receiver act
ReceiverGives w act effect (Some (Err e)) = effect ≡ Some (throws e)
ReceiverGives w act effect None = effect ≡ None

-- what is done with the class of a receiver, which lies below so many slots
abbrev pub on_receiver : World → Resolution → ℕ → Memory → List Slot → (ℕ → Option Effect) → Option Effect
on_receiver w resolution slots r stack act =
    popped kinds.Reference (drop slots stack) >>= λ x. on_instance w resolution r x.0 (λ o class. act class)

abbrev pub IsReceiver : World → Resolution → ℕ → Heap → Continuation → Option (Result Receiver Exception) → Type 0
IsReceiver w resolution slots heap m found = (r : Memory) (act : ℕ → Option Effect) →
    ReceiverGives w act (on_receiver w resolution slots (with_heap heap r) (operands m) act) found
