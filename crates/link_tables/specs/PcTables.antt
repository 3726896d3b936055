-- Tables of instructions by their pcs.
use Rattle.std.specs.Prelude.{◌≡◌, ℕ, List, [], Option, Some, None, position, get_or, ◌==◌, if◌then◌else◌}
use Rattle.opcodes.specs.declared.op.Instr.{Instr}
use Rattle.link_model.specs.declared.members.MethodCode.{MethodCode}
use Rattle.link_model.specs.LookUps.{index_in}

-- the index of an instruction, in two bytes; 65,535 stands for none
abbrev pub some_index : ℕ → Option ℕ
some_index stored = if stored == 65535 then None else Some stored

-- the index that a table has at a pc
abbrev pub stored_index : List ℕ → ℕ → Option ℕ
stored_index table pc = some_index (get_or table pc 65535)

-- the table has at each pc the first of these instructions that begins there
abbrev pub IsByPc : List Instr → List ℕ → Type 0
IsByPc instrs table = (pc : ℕ) → stored_index table pc ≡ position (λ (i : Instr). i.pc == pc) instrs

-- the same of all methods, by number
abbrev pub AreByPc : List (Option MethodCode) → List (List ℕ) → Type 0
AreByPc codes tables = (method pc : ℕ) → stored_index (get_or tables method []) pc ≡ index_in codes method pc
