-- The bytes of each instruction (JVMS 6.5), by cases of its format.
use Rattle.std.specs.Prelude.{◌≡◌, ℕ, ◌+◌, ◌-◌, ◌%◌, ◌<◌, ◌≤◌, ◌^◌, ℤ, pos, ◌-ℤ◌, ◌<ℤ◌, ◌≤ℤ◌, unsigned_abs, FitsSigned, List, [], ◌∷◌, ◌++◌, length, get_or}
use Rattle.std.specs.List.{flat_map, AllByRecursion}
use Rattle.std.specs.Int.{w8, w16, w32, to_be_bytes, cast_unsigned}
use Rattle.opcodes.specs.declared.op.Op.{Op}
use Rattle.opcodes.specs.declared.op.Op.TheVariants as ops
use Rattle.opcodes.specs.declared.op.Op.TheVariants.{PushInt, PushConstant, Increment, InvokeInterface, InvokeDynamic, NewArray, MultiANewArray}
use Rattle.opcodes.specs.declared.op.Primitive.{Primitive}
use Rattle.opcodes.specs.declared.op.Primitive.TheVariants.{Boolean, Char, Float, Double, Byte, Short, Int, Long}
use Rattle.opcodes.specs.declared.switch.TableSwitch.{TableSwitch}
use Rattle.opcodes.specs.declared.switch.Match.{Match}
use Rattle.opcodes.specs.declared.switch.LookupSwitch.{LookupSwitch}
use Rattle.opcodes.specs.Formats.{Format, undefined, plain, byte, short, constant, index, local, increment, branch, far_branch, table, lookup, interface, dynamic, primitive, dimensions, wide, format}

-- ---- numbers, the highest byte first

abbrev pub u1 : ℕ → List ℕ
u1 n = n ∷ []

abbrev pub u2 : ℕ → List ℕ
u2 n = to_be_bytes w16 n

abbrev pub s1 : ℤ → List ℕ
s1 n = cast_unsigned w8 n ∷ []

abbrev pub s2 : ℤ → List ℕ
s2 n = to_be_bytes w16 (cast_unsigned w16 n)

abbrev pub s4 : ℤ → List ℕ
s4 n = to_be_bytes w32 (cast_unsigned w32 n)

abbrev pub IsU1 : ℕ → Type 0
IsU1 n = n < 2 ^ 8

abbrev pub IsU2 : ℕ → Type 0
IsU2 n = n < 2 ^ 16

-- ---- operands

-- newarray's codes, from 4 on
abbrev pub primitives : List Primitive
primitives = Boolean ∷ Char ∷ Float ∷ Double ∷ Byte ∷ Short ∷ Int ∷ Long ∷ []

abbrev pub primitive_of : ℕ → Primitive
primitive_of code = get_or primitives (code - 4) Int

-- the offset of a target from the instruction's own pc, and its bytes in two bytes and in four
abbrev pub offset_to : ℕ → ℤ → ℤ
offset_to pc target = target -ℤ pos pc

abbrev pub near_offset : ℕ → ℤ → List ℕ
near_offset pc target = s2 (offset_to pc target)

abbrev pub IsNear : ℕ → ℤ → Type 0
IsNear pc target = FitsSigned w16 (offset_to pc target)

abbrev pub far_offset : ℕ → ℤ → List ℕ
far_offset pc target = s4 (offset_to pc target)

abbrev pub IsFar : ℕ → ℤ → Type 0
IsFar pc target = FitsSigned w32 (offset_to pc target)

-- how many bytes pad a switch, so that the next is at a multiple of 4 from the code's start
abbrev pub padding_of : ℕ → ℕ
padding_of pc = 3 - pc % 4

-- the operands of tableswitch, with the bytes that pad it
pub record Table : Type 0 where
  pub padding : List ℕ
  pub default : ℤ
  pub low : ℤ
  pub high : ℤ
  pub targets : List ℤ

abbrev pub table_bytes : ℕ → Table → List ℕ
table_bytes pc t =
    t.padding
    ++ (far_offset pc t.default ++ (s4 t.low ++ (s4 t.high ++ flat_map (far_offset pc) t.targets)))

-- how many targets a tableswitch has
abbrev pub count_of : ℤ → ℤ → ℕ
count_of low high = unsigned_abs (high -ℤ low) + 1

pub record IsTable (pc : ℕ) (t : Table) : Type 0 where
  pub padding : length t.padding ≡ padding_of pc
  pub default : IsFar pc t.default
  pub low : FitsSigned w32 t.low
  pub high : FitsSigned w32 t.high
  pub order : t.low ≤ℤ t.high
  pub count : length t.targets ≡ count_of t.low t.high
  pub targets : AllByRecursion (IsFar pc) t.targets

-- what is kept of them
abbrev pub table_switch : Table → TableSwitch
table_switch t = record { default = t.default; low = t.low; targets = t.targets }

abbrev pub table_op : Table → Op
table_op t = ops.TableSwitch (table_switch t)

-- a match of lookupswitch, with the offset of its target
abbrev pub match_bytes : ℕ → Match → List ℕ
match_bytes pc m = s4 m.value ++ far_offset pc m.target

abbrev pub IsMatch : ℕ → Match → Type 0
IsMatch pc m = FitsSigned w32 m.value × IsFar pc m.target

-- each value is above this number and above the values before it
abbrev pub AreAbove : ℤ → List Match → Type 0
AreAbove floor [] = Unit {0}
AreAbove floor (m ∷ ms) = (floor <ℤ m.value) × AreAbove m.value ms

abbrev pub AreRising : List Match → Type 0
AreRising [] = Unit {0}
AreRising (m ∷ ms) = AreAbove m.value ms

-- the operands of lookupswitch, with the bytes that pad it
pub record Lookup : Type 0 where
  pub padding : List ℕ
  pub default : ℤ
  pub matches : List Match

abbrev pub lookup_bytes : ℕ → Lookup → List ℕ
lookup_bytes pc t =
    t.padding
    ++ (far_offset pc t.default ++ (s4 (pos (length t.matches)) ++ flat_map (match_bytes pc) t.matches))

pub record IsLookup (pc : ℕ) (t : Lookup) : Type 0 where
  pub padding : length t.padding ≡ padding_of pc
  pub default : IsFar pc t.default
  pub count : FitsSigned w32 (pos (length t.matches))
  pub matches : AllByRecursion (IsMatch pc) t.matches
  pub rising : AreRising t.matches

abbrev pub lookup_switch : Lookup → LookupSwitch
lookup_switch t = record { default = t.default; matches = t.matches }

abbrev pub lookup_op : Lookup → Op
lookup_op t = ops.LookupSwitch (lookup_switch t)

-- ---- instructions

-- these bytes are operands that fit, and this is what the instruction does with them
pub record IsOf {A : Type 0} (Fits : A → Type 0) (spell : A → List ℕ) (op_of : A → Op) (bytes : List ℕ) (op : Op) : Type 0 where
  pub operand : A
  pub fits : Fits operand
  pub spelling : bytes ≡ spell operand
  pub same : op_of operand ≡ op

-- the index of a local variable, and what is added to it
abbrev pub AreIncrement : ℕ × ℤ → Type 0
AreIncrement x = IsU1 x.0 × FitsSigned w8 x.1

abbrev pub AreWideIncrement : ℕ × ℤ → Type 0
AreWideIncrement x = IsU2 x.0 × FitsSigned w16 x.1

abbrev pub increment_op : ℕ × ℤ → Op
increment_op x = Increment x.0 x.1

-- the index of an entry of the constant pool, and a number
abbrev pub AreIndexAndNumber : ℕ × ℕ → Type 0
AreIndexAndNumber x = IsU2 x.0 × IsU1 x.1

abbrev pub index_and_number : ℕ × ℕ → List ℕ
index_and_number x = u2 x.0 ++ u1 x.1

abbrev pub interface_op : ℕ × ℕ → Op
interface_op x = InvokeInterface x.0 x.1

abbrev pub dimensions_op : ℕ × ℕ → Op
dimensions_op x = MultiANewArray x.0 x.1

abbrev pub primitive_op : ℕ → Op
primitive_op code = NewArray (primitive_of code)

-- the operands of an opcode after wide
abbrev pub AreWideOperands : Format → List ℕ → Op → Type 0
AreWideOperands (local op_of) bytes op = IsOf IsU2 u2 op_of bytes op
AreWideOperands increment bytes op =
    IsOf AreWideIncrement (λ x. u2 x.0 ++ s2 x.1) increment_op bytes op
AreWideOperands other bytes op = ⊥

-- an opcode, and its operands after it
abbrev pub BehindOpcode : (ℕ → List ℕ → Op → Type 0) → List ℕ → Op → Type 0
BehindOpcode Are [] op = ⊥
BehindOpcode Are (opcode ∷ bytes) op = Are opcode bytes op

-- the operands of an instruction at pc
abbrev pub AreOperands : ℕ → Format → List ℕ → Op → Type 0
AreOperands pc undefined bytes op = ⊥
AreOperands pc (plain plain_op) bytes op = (bytes ≡ []) × (plain_op ≡ op)
AreOperands pc byte bytes op = IsOf (FitsSigned w8) s1 PushInt bytes op
AreOperands pc short bytes op = IsOf (FitsSigned w16) s2 PushInt bytes op
AreOperands pc constant bytes op = IsOf IsU1 u1 PushConstant bytes op
AreOperands pc (index op_of) bytes op = IsOf IsU2 u2 op_of bytes op
AreOperands pc (local op_of) bytes op = IsOf IsU1 u1 op_of bytes op
AreOperands pc increment bytes op = IsOf AreIncrement (λ x. u1 x.0 ++ s1 x.1) increment_op bytes op
AreOperands pc (branch op_of) bytes op = IsOf (IsNear pc) (near_offset pc) op_of bytes op
AreOperands pc (far_branch op_of) bytes op = IsOf (IsFar pc) (far_offset pc) op_of bytes op
AreOperands pc table bytes op = IsOf (IsTable pc) (table_bytes pc) table_op bytes op
AreOperands pc lookup bytes op = IsOf (IsLookup pc) (lookup_bytes pc) lookup_op bytes op
AreOperands pc interface bytes op =
    IsOf AreIndexAndNumber (λ x. index_and_number x ++ 0 ∷ []) interface_op bytes op
AreOperands pc dynamic bytes op = IsOf IsU2 (λ n. (u2 n ++ 0 ∷ []) ++ 0 ∷ []) InvokeDynamic bytes op
AreOperands pc primitive bytes op = IsOf (λ code. (4 ≤ code) × (code < 12)) u1 primitive_op bytes op
AreOperands pc dimensions bytes op =
    IsOf (λ x. AreIndexAndNumber x × (0 < x.1)) index_and_number dimensions_op bytes op
AreOperands pc wide bytes op = BehindOpcode (λ opcode. AreWideOperands (format opcode)) bytes op

-- these bytes are one encoding of an instruction at pc; an instruction may have several
abbrev pub IsEncoded : ℕ → Op → List ℕ → Type 0
IsEncoded pc op bytes = BehindOpcode (λ opcode. AreOperands pc (format opcode)) bytes op
