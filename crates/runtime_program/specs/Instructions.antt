-- Instructions as they are looked up.
use Rattle.std.specs.Prelude.{ℕ, List, Option, Some, get_or, slice_get}
use Rattle.items.specs.Options.{◌>>=◌}
use Rattle.opcodes.specs.declared.op.Instr.{Instr}
use Rattle.link_model.specs.declared.sites.Resolution.{Resolution}
use Rattle.link_model.specs.Sites.{plain}
use Rattle.verify_types.specs.Environment.{Instruction}

-- the instruction at an index, where there is one
abbrev pub instruction_by : List Instr → List Resolution → Option ℕ → Option Instruction
instruction_by instrs resolutions index =
    index >>= λ k. slice_get instrs k >>= λ x. Some (record { instr = x; resolution = get_or resolutions k plain })

-- the pc after an instruction
abbrev pub next_of : Instruction → ℕ
next_of i = i.instr.next
