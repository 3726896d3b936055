-- What the instruction at hand takes is there: laws on the definitions.
use Rattle.std.specs.Prelude.{◌≡◌, List, Some}
use Rattle.instruction_rows.specs.Table.{row as row_of}
use Rattle.link_model.specs.World.{World}
use Rattle.verify_types.specs.Environment.{Instruction}
use Rattle.state_model.specs.Frames.{Frame}
use Rattle.frames.specs.Frames.{top_method, top_pc, top_stack}
use Rattle.continuation.specs.Continuation.{Continuation}
use Rattle.ref_model.specs.Operands.{FindsOperands}
use Rattle.frame_soundness.specs.Typed.{Typed}
use Rattle.interp_local.specs.Fetched.{instruction_at}
use Rattle.thread_steps.specs.declared.parts.Parts.{Parts}
use Rattle.thread_steps.specs.Operands.{FindsNatives}
use Rattle.operand_soundness.specs.Ready.{IsReady}

-- the operands of the instruction that the top frame is at
abbrev pub NextOperandsAreThere : Type 0
NextOperandsAreThere = (w : World) (frames : List Frame) (i : Instruction) → IsReady w → Typed w frames → instruction_at w (top_method frames) (top_pc frames) ≡ Some i →
    FindsOperands w i.resolution (row_of i.instr.op) (top_stack frames)

-- the arguments of the native method that it comes to, if it does
abbrev pub NativeArgumentsAreThere : Type 0
NativeArgumentsAreThere = (w : World) (a : Parts) (m : Continuation) (frames : List Frame) (i : Instruction) → m.stack.frames ≡ frames → IsReady w → Typed w frames →
    instruction_at w (top_method frames) (top_pc frames) ≡ Some i → FindsNatives w i.resolution (row_of i.instr.op) a.natives.heap m
