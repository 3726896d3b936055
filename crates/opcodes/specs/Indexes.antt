-- The index of the instruction at each pc of a code.
use Rattle.std.specs.Prelude.{◌≡◌, ℕ, ◌≤◌, ◌⊎◌, List, length, Some, slice_get}
use Rattle.opcodes.specs.declared.op.Instr.{Instr}
use Rattle.opcodes.specs.declared.pc_table.TheConstants.{NO_INSTR}

-- for each pc of the code the index of the instruction that starts there, or NO_INSTR
pub record AreIndexesByPc (code : List ℕ) (instrs : List Instr) (indexes : List ℕ) : Type 0 where
  pub covers : length indexes ≡ length code
  -- each index is below NO_INSTR
  pub few : length instrs ≤ NO_INSTR
  -- from an instruction to its pc and back
  pub there : (index : ℕ) (i : Instr) → slice_get instrs index ≡ Some i
      → slice_get indexes i.pc ≡ Some index
  -- from a pc to its instruction and back, unless none starts there
  pub back : (pc index : ℕ) → slice_get indexes pc ≡ Some index
      → (index ≡ NO_INSTR) ⊎ ((i : Instr) × (slice_get instrs index ≡ Some i) × (i.pc ≡ pc))
