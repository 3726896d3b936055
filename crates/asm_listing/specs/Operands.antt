-- An instruction of a code, and the operands that its line has (JVMS 6.5).
use Rattle.std.specs.Prelude.{ℕ, Bool, List, [], ◌∷◌, Option, Some, None, nat_le, ◌==◌, ◌&&◌, if◌then◌else◌}
use Rattle.items.specs.Options.{◌>>=◌}
use Rattle.class_model.specs.declared.constant.Const.{Const}
use Rattle.asm_text.specs.declared.instruction.Operands.{Operands}
use Rattle.asm_text.specs.declared.instruction.Operands.TheVariants as operands
use Rattle.asm_text.specs.declared.instruction.Element.{Element}
use Rattle.asm_text.specs.declared.instruction.Element.TheVariants as elements
use Rattle.asm_listing.specs.declared.form.Form.{Form}
use Rattle.asm_listing.specs.declared.form.Form.TheVariants as forms
use Rattle.asm_listing.specs.declared.operand_reader.Listed.{Listed}
use Rattle.asm_listing.specs.Numbers.{Reader, u1_at, u2_at, s1_at, s2_at, s4_at, skip}
use Rattle.asm_listing.specs.Words.{label_of, target_of, class_at, member_at, constant_at}

-- whether a number is one of some from the first to the last
abbrev pub is_within : ℕ → ℕ → ℕ → Bool
is_within low high n = nat_le low n && nat_le n high

-- Which operands an opcode has; one whose instruction has no name has none.
abbrev pub form_of : ℕ → Form
form_of opcode =
    if opcode == 16 then forms.Byte
    else if opcode == 17 then forms.Short
    else if opcode == 18 then forms.Constant
    else if is_within 19 20 opcode then forms.WideConstant
    else if is_within 21 25 opcode then forms.Local
    else if is_within 54 58 opcode then forms.Local
    else if opcode == 132 then forms.Increment
    else if is_within 153 167 opcode then forms.Branch
    else if opcode == 170 then forms.Table
    else if opcode == 171 then forms.Lookup
    else if is_within 178 184 opcode then forms.Member
    else if opcode == 185 then forms.InterfaceMember
    else if opcode == 187 then forms.Class
    else if opcode == 188 then forms.Element
    else if opcode == 189 then forms.Class
    else if is_within 192 193 opcode then forms.Class
    else if opcode == 197 then forms.Dimensions
    else if is_within 198 199 opcode then forms.Branch
    else if opcode == 200 then forms.FarBranch
    else forms.Nothing

-- the operands, and the pcs that they name
abbrev pub plain : Operands → Listed
plain ops = record { operands = ops; targets = [] }

abbrev pub byte : Reader Listed
byte bytes = do
  n ← s1_at bytes
  Some (plain (operands.Byte n.0), n.1)

abbrev pub short : Reader Listed
short bytes = do
  n ← s2_at bytes
  Some (plain (operands.Short n.0), n.1)

abbrev pub constant : List Const → Reader Listed
constant pool bytes = do
  index ← u1_at bytes
  c ← constant_at pool index.0
  Some (plain (operands.Constant c), index.1)

abbrev pub wide_constant : List Const → Reader Listed
wide_constant pool bytes = do
  index ← u2_at bytes
  c ← constant_at pool index.0
  Some (plain (operands.Constant c), index.1)

abbrev pub local : Reader Listed
local bytes = do
  n ← u1_at bytes
  Some (plain (operands.Local n.0), n.1)

abbrev pub increment : Reader Listed
increment bytes = do
  n ← u1_at bytes
  by ← s1_at n.1
  Some (plain (operands.Increment n.0 by.0), by.1)

abbrev pub branch_to : ℕ → Listed
branch_to target = record { operands = operands.Branch (label_of target); targets = target ∷ [] }

abbrev pub branch : ℕ → Reader Listed
branch pc bytes = do
  offset ← s2_at bytes
  target ← target_of pc offset.0
  Some (branch_to target, offset.1)

abbrev pub far_branch : ℕ → Reader Listed
far_branch pc bytes = do
  offset ← s4_at bytes
  target ← target_of pc offset.0
  Some (branch_to target, offset.1)

abbrev pub member : List Const → Reader Listed
member pool bytes = do
  index ← u2_at bytes
  m ← member_at pool index.0
  Some (plain m, index.1)

-- with a count and a zero behind, which follow from the rest
abbrev pub interface_member : List Const → Reader Listed
interface_member pool bytes = do
  m ← member pool bytes
  rest ← skip 2 m.1
  Some (m.0, rest)

abbrev pub class : List Const → Reader Listed
class pool bytes = do
  index ← u2_at bytes
  name ← class_at pool index.0
  Some (plain (operands.Class name), index.1)

abbrev pub element_of : ℕ → Option Element
element_of code =
    if code == 4 then Some elements.Boolean
    else if code == 5 then Some elements.Char
    else if code == 8 then Some elements.Byte
    else if code == 9 then Some elements.Short
    else if code == 10 then Some elements.Int
    else if code == 11 then Some elements.Long
    else None

abbrev pub element : Reader Listed
element bytes = do
  code ← u1_at bytes
  e ← element_of code.0
  Some (plain (operands.Element e), code.1)

abbrev pub dimensions : List Const → Reader Listed
dimensions pool bytes = do
  index ← u2_at bytes
  name ← class_at pool index.0
  count ← u1_at index.1
  Some (plain (operands.Dimensions name count.0), count.1)

-- behind wide
abbrev pub wide_increment : Reader Listed
wide_increment bytes = do
  n ← u2_at bytes
  by ← s2_at n.1
  Some (plain (operands.Increment n.0 by.0), by.1)

abbrev pub wide_local : Reader Listed
wide_local bytes = do
  n ← u2_at bytes
  Some (plain (operands.Local n.0), n.1)

abbrev pub wide_operands : ℕ → Reader Listed
wide_operands opcode bytes = if opcode == 132 then wide_increment bytes else wide_local bytes
