-- Instructions by their mnemonics (JVMS 6.5).
use Rattle.std.specs.Prelude.{ℕ, List}
use Rattle.lib_table.specs.declared.instruction.Instruction as declared
use Rattle.lib_table.specs.declared.instruction.Instruction.TheVariants as ops
use Rattle.lib_table.specs.declared.instruction.Operand as behind
use Rattle.lib_table.specs.declared.instruction.Operand.TheVariants as operands

-- what comes after an opcode (JVMS 6.5)
pub data Operand : Type 0 where
  nothing : Operand
  text_index : List ℕ → Operand
  class_index : List ℕ → Operand
  -- by class, name and descriptor
  field_index : List ℕ → List ℕ → List ℕ → Operand
  method_index : List ℕ → List ℕ → List ℕ → Operand
  -- and by the number of argument slots with the receiver
  interface_index : List ℕ → List ℕ → List ℕ → ℕ → Operand
  -- the pc that a branch goes to, which is after it
  offset_to : ℕ → Operand

pub record Instruction : Type 0 where
  pub opcode : ℕ
  pub operand : Operand

-- ---- the opcode and the operand of each mnemonic

abbrev pub op : ℕ → Operand → Instruction
op opcode operand = record { opcode = opcode; operand = operand }

abbrev pub aconst_null : Instruction
aconst_null = op 1 nothing

abbrev pub iconst_1 : Instruction
iconst_1 = op 4 nothing

abbrev pub ldc_w : List ℕ → Instruction
ldc_w text = op 19 (text_index text)

abbrev pub iload_1 : Instruction
iload_1 = op 27 nothing

abbrev pub aload_0 : Instruction
aload_0 = op 42 nothing

abbrev pub aload_1 : Instruction
aload_1 = op 43 nothing

abbrev pub aload_2 : Instruction
aload_2 = op 44 nothing

abbrev pub astore_2 : Instruction
astore_2 = op 77 nothing

abbrev pub pop : Instruction
pop = op 87 nothing

abbrev pub dup : Instruction
dup = op 89 nothing

-- a branch by the pc that it goes to, which is after it
abbrev pub ifeq : ℕ → Instruction
ifeq target = op 153 (offset_to target)

abbrev pub ireturn : Instruction
ireturn = op 172 nothing

abbrev pub areturn : Instruction
areturn = op 176 nothing

-- return, without a value
abbrev pub return_void : Instruction
return_void = op 177 nothing

abbrev pub getfield : List ℕ → List ℕ → List ℕ → Instruction
getfield class name descriptor = op 180 (field_index class name descriptor)

abbrev pub putfield : List ℕ → List ℕ → List ℕ → Instruction
putfield class name descriptor = op 181 (field_index class name descriptor)

abbrev pub invokevirtual : List ℕ → List ℕ → List ℕ → Instruction
invokevirtual class name descriptor = op 182 (method_index class name descriptor)

abbrev pub invokespecial : List ℕ → List ℕ → List ℕ → Instruction
invokespecial class name descriptor = op 183 (method_index class name descriptor)

abbrev pub invokestatic : List ℕ → List ℕ → List ℕ → Instruction
invokestatic class name descriptor = op 184 (method_index class name descriptor)

-- the last number is that of the argument slots with the receiver
abbrev pub invokeinterface : List ℕ → List ℕ → List ℕ → ℕ → Instruction
invokeinterface class name descriptor count = op 185 (interface_index class name descriptor count)

-- new
abbrev pub new_object : List ℕ → Instruction
new_object name = op 187 (class_index name)

abbrev pub athrow : Instruction
athrow = op 191 nothing

abbrev pub ifnull : ℕ → Instruction
ifnull target = op 198 (offset_to target)

abbrev pub ifnonnull : ℕ → Instruction
ifnonnull target = op 199 (offset_to target)

-- ---- what the instructions of the code say

abbrev pub meaning : declared.Instruction → Instruction
meaning ops.AconstNull = aconst_null
meaning ops.Iconst1 = iconst_1
meaning (ops.LdcW text) = ldc_w text.now
meaning ops.Iload1 = iload_1
meaning ops.Aload0 = aload_0
meaning ops.Aload1 = aload_1
meaning ops.Aload2 = aload_2
meaning ops.Astore2 = astore_2
meaning ops.Pop = pop
meaning ops.Dup = dup
meaning (ops.Ifeq pc) = ifeq pc
meaning (ops.Ifnull pc) = ifnull pc
meaning (ops.Ifnonnull pc) = ifnonnull pc
meaning ops.Ireturn = ireturn
meaning ops.Areturn = areturn
meaning ops.Return = return_void
meaning (ops.Getfield class name descriptor) = getfield class.now name.now descriptor.now
meaning (ops.Putfield class name descriptor) = putfield class.now name.now descriptor.now
meaning (ops.Invokevirtual class name descriptor) = invokevirtual class.now name.now descriptor.now
meaning (ops.Invokespecial class name descriptor) = invokespecial class.now name.now descriptor.now
meaning (ops.Invokestatic class name descriptor) = invokestatic class.now name.now descriptor.now
meaning (ops.Invokeinterface class name descriptor count) = invokeinterface class.now name.now descriptor.now count
meaning (ops.New name) = new_object name.now
meaning ops.Athrow = athrow

abbrev pub operand_of : behind.Operand → Operand
operand_of operands.Nothing = nothing
operand_of (operands.Text text) = text_index text.now
operand_of (operands.Class name) = class_index name.now
operand_of (operands.Field class name descriptor) = field_index class.now name.now descriptor.now
operand_of (operands.Method class name descriptor) = method_index class.now name.now descriptor.now
operand_of (operands.InterfaceMethod class name descriptor count) = interface_index class.now name.now descriptor.now count
operand_of (operands.Target pc) = offset_to pc
