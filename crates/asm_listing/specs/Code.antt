-- The instructions of a code, each as its line at its pc.
use Rattle.std.specs.Prelude.{ℕ, ◌-◌, List, [], ◌∷◌, ◌++◌, length, Option, Some, None, ◌==◌, if◌then◌else◌}
use Rattle.items.specs.Options.{◌>>=◌}
use Rattle.class_model.specs.declared.constant.Const.{Const}
use Rattle.asm_text.specs.declared.line.Line.TheVariants as lines
use Rattle.asm_text.specs.declared.instruction.Operands.TheVariants as operands
use Rattle.asm_listing.specs.declared.form.Form.{Form}
use Rattle.asm_listing.specs.declared.form.Form.TheVariants as forms
use Rattle.asm_listing.specs.declared.operand_reader.Listed.{Listed}
use Rattle.asm_listing.specs.declared.code.PlacedLine.{PlacedLine}
use Rattle.asm_listing.specs.declared.code.Said.{Said}
use Rattle.asm_listing.specs.declared.code.Found.{Found}
use Rattle.asm_listing.specs.Numbers.{Reader, StepOn, repeat, u1_at}
use Rattle.asm_listing.specs.Operands.{form_of, plain, byte, short, constant, wide_constant, local, increment, branch, far_branch, member, interface_member, class, element, dimensions, wide_operands}
use Rattle.asm_listing.specs.Switches.{table, lookup}

-- the operands of an instruction at pc
abbrev pub operands_by : List Const → ℕ → Form → Reader Listed
operands_by pool pc forms.Nothing bytes = Some (plain operands.Nothing, bytes)
operands_by pool pc forms.Byte bytes = byte bytes
operands_by pool pc forms.Short bytes = short bytes
operands_by pool pc forms.Constant bytes = constant pool bytes
operands_by pool pc forms.WideConstant bytes = wide_constant pool bytes
operands_by pool pc forms.Local bytes = local bytes
operands_by pool pc forms.Increment bytes = increment bytes
operands_by pool pc forms.Branch bytes = branch pc bytes
operands_by pool pc forms.FarBranch bytes = far_branch pc bytes
operands_by pool pc forms.Table bytes = table pc bytes
operands_by pool pc forms.Lookup bytes = lookup pc bytes
operands_by pool pc forms.Member bytes = member pool bytes
operands_by pool pc forms.InterfaceMember bytes = interface_member pool bytes
operands_by pool pc forms.Class bytes = class pool bytes
operands_by pool pc forms.Element bytes = element bytes
operands_by pool pc forms.Dimensions bytes = dimensions pool bytes

-- the line of an instruction, and the pcs that it names
abbrev pub said_of : ℕ → Listed → Said
said_of opcode listed = record { line = lines.Instruction opcode listed.operands; targets = listed.targets }

abbrev pub wide_at : Reader Said
wide_at bytes = do
  opcode ← u1_at bytes
  listed ← wide_operands opcode.0 opcode.1
  Some (said_of opcode.0 listed.0, listed.1)

abbrev pub plain_at : List Const → ℕ → ℕ → Reader Said
plain_at pool pc opcode bytes = do
  listed ← operands_by pool pc (form_of opcode) bytes
  Some (said_of opcode listed.0, listed.1)

-- 196 is wide
abbrev pub instruction_at : List Const → ℕ → Reader Said
instruction_at pool pc bytes = do
  opcode ← u1_at bytes
  if opcode.0 == 196 then wide_at opcode.1 else plain_at pool pc opcode.0 opcode.1

-- ---- the lines so far, and the pcs that are named

pub record Seen : Type 0 where
  pub lines : List PlacedLine
  pub named : List ℕ

abbrev pub seen : Found → Seen
seen f = record { lines = f.lines.items; named = f.named.items }

abbrev pub nothing : Seen
nothing = record { lines = []; named = [] }

abbrev pub with_said : Seen → ℕ → Said → Seen
with_said f pc said = record {
  lines = f.lines ++ record { pc = pc; line = said.line } ∷ [];
  named = f.named ++ said.targets;
}

-- what is found where nothing may be left
abbrev pub ended : Seen → List ℕ → Option Seen
ended found [] = Some found
ended found (b ∷ bs) = None

-- the next instruction of a code of this size, where one is left
abbrev pub one_line : List Const → ℕ → StepOn Seen
one_line pool size found [] = Some (found, [])
one_line pool size found (b ∷ bs) = do
  said ← instruction_at pool (size - length (b ∷ bs)) (b ∷ bs)
  Some (with_said found (size - length (b ∷ bs)) said.0, said.1)

-- The lines of a code. There are no more instructions than bytes.
abbrev pub code_lines : List Const → List ℕ → Option Seen
code_lines pool code = do
  found ← repeat (one_line pool (length code)) (length code) nothing code
  ended found.0 found.1
