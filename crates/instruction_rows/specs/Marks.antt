-- Which instructions are local: they read and write only the frames of their thread, and no other thread can tell
-- when they run.
use Rattle.std.specs.Prelude.{◌≡◌, Bool, true, false, IsTrue, List, ◌∷◌, None}
use Rattle.opcodes.specs.declared.op.Op.{Op}
use Rattle.opcodes.specs.declared.op.Op.TheVariants as ops
use Rattle.opcodes.specs.declared.op.Simple.{Simple}
use Rattle.opcodes.specs.declared.op.Simple.TheVariants as simples
use Rattle.opcodes.specs.declared.op.Primitive.{Primitive}
use Rattle.opcodes.specs.declared.op.Primitive.TheVariants as primitives
use Rattle.jvm_words.specs.declared.operation.IntOp.{IntOp}
use Rattle.jvm_words.specs.declared.operation.IntOp.TheVariants as ints
use Rattle.jvm_words.specs.declared.operation.LongOp.{LongOp}
use Rattle.jvm_words.specs.declared.operation.LongOp.TheVariants as longs
use Rattle.jvm_words.specs.Words.{is_zero}
use Rattle.instruction_rows.specs.declared.value.Value.TheVariants.{Int, Long}
use Rattle.instruction_rows.specs.declared.value.Slot.{Slot}
use Rattle.instruction_rows.specs.declared.value.Slot.TheVariants.{One}
use Rattle.instruction_rows.specs.Contents.{Contents}
use Rattle.instruction_rows.specs.Rows.{LocalRow, static, Row, local, constant, wide_constant, returns, invoke, event, refused}
use Rattle.instruction_rows.specs.SlotEffect.{acted, divides_by_zero}
use Rattle.instruction_rows.specs.Table.{row}

pub data Mark : Type 0 where
  -- local wherever its operands are there
  always : Mark
  -- local where the divisor isn't 0
  by_divisor : Mark
  -- local, and pushes what the constant pool has
  by_constant : Mark
  -- local in some frames, as return is where the frame has no monitor
  by_frame : Mark
  -- never local
  never : Mark
  -- in no program that runs
  absent : Mark

abbrev pub int_mark : IntOp → Mark
int_mark ints.Div = by_divisor
int_mark ints.Rem = by_divisor
int_mark op = always

abbrev pub long_mark : LongOp → Mark
long_mark longs.Div = by_divisor
long_mark longs.Rem = by_divisor
long_mark op = always

abbrev pub simple_mark : Simple → Mark
simple_mark simples.Nop = always
simple_mark simples.PushNull = always
simple_mark (simples.ArrayLoad element) = never
simple_mark (simples.ArrayStore element) = never
simple_mark simples.Pop = always
simple_mark simples.Pop2 = always
simple_mark simples.Dup = always
simple_mark simples.DupX1 = always
simple_mark simples.DupX2 = always
simple_mark simples.Dup2 = always
simple_mark simples.Dup2X1 = always
simple_mark simples.Dup2X2 = always
simple_mark simples.Swap = always
simple_mark (simples.IntBinary op) = int_mark op
simple_mark (simples.LongBinary op) = long_mark op
simple_mark (simples.LongShift op) = always
simple_mark simples.IntNegate = always
simple_mark simples.LongNegate = always
simple_mark simples.IntToLong = always
simple_mark simples.LongToInt = always
simple_mark (simples.IntNarrow to) = always
simple_mark simples.LongCompare = always
simple_mark (simples.ReturnValue kind) = by_frame
simple_mark simples.Return = by_frame
simple_mark simples.ArrayLength = never
simple_mark simples.Throw = never
simple_mark simples.MonitorEnter = never
simple_mark simples.MonitorExit = never

abbrev pub new_array_mark : Primitive → Mark
new_array_mark primitives.Float = absent
new_array_mark primitives.Double = absent
new_array_mark primitive = never

abbrev pub mark : Op → Mark
mark (ops.Simple simple) = simple_mark simple
mark (ops.PushInt n) = always
mark (ops.PushLong n) = always
mark (ops.PushConstant index) = by_constant
mark (ops.PushWideConstant index) = by_constant
mark (ops.Load kind n) = always
mark (ops.Store kind n) = always
mark (ops.Increment n amount) = always
mark (ops.IfZero c target) = always
mark (ops.IfInts c target) = always
mark (ops.IfReferences s target) = always
mark (ops.IfNull s target) = always
mark (ops.Goto target) = always
mark (ops.TableSwitch s) = always
mark (ops.LookupSwitch s) = always
mark (ops.GetStatic index) = never
mark (ops.PutStatic index) = never
mark (ops.GetField index) = never
mark (ops.PutField index) = never
mark (ops.InvokeVirtual index) = never
mark (ops.InvokeSpecial index) = never
mark (ops.InvokeStatic index) = by_frame
mark (ops.InvokeInterface index count) = never
mark (ops.InvokeDynamic index) = never
mark (ops.New index) = never
mark (ops.NewArray primitive) = new_array_mark primitive
mark (ops.ANewArray index) = never
mark (ops.MultiANewArray index dimensions) = never
mark (ops.CheckCast index) = never
mark (ops.InstanceOf index) = never
mark (ops.Jsr target) = absent
mark (ops.Ret n) = absent
mark (ops.Floating opcode) = absent

-- two ints are on top, or two longs, and the upper one is 0
abbrev pub is_zero_int_on : List Slot → Bool
is_zero_int_on (One (Int b) ∷ One (Int a) ∷ rest) = is_zero b
is_zero_int_on stack = false

abbrev pub is_zero_long_on : List Slot → Bool
is_zero_long_on (upper ∷ One (Long b) ∷ next ∷ One (Long a) ∷ rest) = is_zero b
is_zero_long_on stack = false

-- the instruction is idiv, irem, ldiv or lrem, and its divisor is 0
abbrev pub has_zero_divisor : Op → List Slot → Bool
has_zero_divisor (ops.Simple (simples.IntBinary ints.Div)) stack = is_zero_int_on stack
has_zero_divisor (ops.Simple (simples.IntBinary ints.Rem)) stack = is_zero_int_on stack
has_zero_divisor (ops.Simple (simples.LongBinary longs.Div)) stack = is_zero_long_on stack
has_zero_divisor (ops.Simple (simples.LongBinary longs.Rem)) stack = is_zero_long_on stack
has_zero_divisor op stack = false

-- a row that reads and writes only slots
pub record IsLocal (r : Row) : Type 0 where
  pub act : LocalRow
  pub is : r ≡ local act

-- a row that reads and writes only slots and never divides by 0
pub record IsAlwaysLocal (r : Row) : Type 0 where
  pub act : LocalRow
  pub is : r ≡ local act
  pub defined : (c : Contents Slot) → divides_by_zero act c ≡ false

abbrev pub is_constant : Row → Bool
is_constant (constant index) = true
is_constant (wide_constant index) = true
is_constant r = false

abbrev pub is_by_frame : Row → Bool
is_by_frame (returns kind) = true
is_by_frame (invoke static index) = true
is_by_frame r = false

abbrev pub is_event : Row → Bool
is_event (invoke static index) = false
is_event (invoke invocation index) = true
is_event (event e) = true
is_event r = false

abbrev pub is_refused : Row → Bool
is_refused refused = true
is_refused r = false

-- what a mark says of the row
abbrev pub HasMark : Mark → Row → Type 0
HasMark always r = IsAlwaysLocal r
HasMark by_divisor r = IsLocal r
HasMark by_constant r = IsTrue (is_constant r)
HasMark by_frame r = IsTrue (is_by_frame r)
HasMark never r = IsTrue (is_event r)
HasMark absent r = IsTrue (is_refused r)

-- Each row is as its instruction is marked.
abbrev pub RowsAreMarked : Type 0
RowsAreMarked = (op : Op) → HasMark (mark op) (row op)

-- A row that reads and writes only slots divides by 0 exactly where its instruction has a zero divisor, and is undefined there.
abbrev pub RowsDivideByZero : Type 0
RowsDivideByZero = (op : Op) (r : LocalRow) (c : Contents Slot) → row op ≡ local r
    → (divides_by_zero r c ≡ has_zero_divisor op c.stack) × (divides_by_zero r c ≡ true → acted r c ≡ None)
