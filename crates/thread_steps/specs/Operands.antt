-- What the step of a thread finds on the operand stack of its top frame.
use Rattle.lib_table.specs.declared.native.Native.{Native}
use Rattle.instruction_rows.specs.Rows.{Row}
use Rattle.link_model.specs.declared.sites.Resolution.{Resolution}
use Rattle.link_model.specs.World.{World}
use Rattle.heap_objs.specs.Heap.{Heap}
use Rattle.continuation.specs.Continuation.{Continuation}
use Rattle.ref_model.specs.Operands.{FindsArguments}
use Rattle.heap_instructions.specs.Operands.{operands}
use Rattle.invocation.specs.Natives.{IsNativeInvoked}

-- the arguments of the native method that an invocation comes to
abbrev pub FindsNatives : World → Resolution → Row → Heap → Continuation → Type 0
FindsNatives w resolution row heap m = (native : Native) → IsNativeInvoked w resolution row heap m native → FindsArguments w native (operands m)
