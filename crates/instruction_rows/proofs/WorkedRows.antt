-- Rows at single values, beside the text of JVMS 6.5. Stacks are written with the top first.
use Rattle.std.proofs.Common.{◌≡◌, ℤ, pos, negsuc, Bool, true, false, List, [], ◌∷◌, Option, Some, None, Result, Ok, Err, refl}
use Rattle.std.specs.Int.{int_wrap}
use Rattle.jvm_words.specs.declared.operation.IntOp.TheVariants as ints
use Rattle.jvm_words.specs.declared.operation.LongOp.TheVariants as longs
use Rattle.jvm_words.specs.declared.operation.ShiftOp.TheVariants as shifts
use Rattle.opcodes.specs.declared.op.Op.{Op}
use Rattle.opcodes.specs.declared.op.Op.TheVariants as ops
use Rattle.opcodes.specs.declared.op.Simple.TheVariants as simples
use Rattle.opcodes.specs.declared.op.ValueKind.TheVariants as kinds
use Rattle.opcodes.specs.declared.op.Comparison.TheVariants as orders
use Rattle.opcodes.specs.declared.op.Sameness.TheVariants as samenesses
use Rattle.stack_maps.specs.declared.types.VType.{VType}
use Rattle.stack_maps.specs.declared.types.VType.TheVariants as types
use Rattle.instruction_rows.specs.declared.row_why.RowWhy.{RowWhy}
use Rattle.instruction_rows.specs.declared.row_why.RowWhy.TheVariants as whys
use Rattle.instruction_rows.specs.declared.value.Value.TheVariants.{Int, Long, Null, Ref}
use Rattle.instruction_rows.specs.declared.value.Slot.{Slot}
use Rattle.instruction_rows.specs.declared.value.Slot.TheVariants.{One, Second}
use Rattle.instruction_rows.specs.Contents.{Contents}
use Rattle.instruction_rows.specs.Rows.{Row, local}
use Rattle.instruction_rows.specs.Table.{row}
use Rattle.instruction_rows.specs.SlotEffect.{on, to, Moved, acted, divides_by_zero}
use Rattle.instruction_rows.specs.TypeEffect.{typed}

-- what the local row of an instruction does to slots and to types, and whether it divides by 0
abbrev acts : Row → Contents Slot → Option Moved
acts (local r) c = acted r c
acts r c = None

abbrev types_after : Row → Contents VType → Result (Contents VType) RowWhy
types_after (local r) c = typed r c
types_after r c = Ok c

abbrev by_zero : Row → Contents Slot → Bool
by_zero (local r) c = divides_by_zero r c
by_zero r c = false

-- an instruction makes this stack of that one, and goes on
abbrev Makes : Op → List Slot → List Slot → Type 0
Makes op before after = acts (row op) (record { locals = []; stack = before }) ≡ Some (record { contents = record { locals = []; stack = after }; way = on })

-- it takes the whole stack, and goes to the target
abbrev GoesTo : Op → List Slot → ℤ → Type 0
GoesTo op before target = acts (row op) (record { locals = []; stack = before }) ≡ Some (record { contents = record { locals = []; stack = [] }; way = to target })

-- it makes these types of those
abbrev Types : Op → Contents VType → Contents VType → Type 0
Types op before after = types_after (row op) before ≡ Ok after

-- it doesn't fit these types
abbrev Refuses : Op → Contents VType → RowWhy → Type 0
Refuses op before why = types_after (row op) before ≡ Err why

abbrev int : ℤ → Slot
int n = One (Int n)

-- a long on the operand stack, before what lies below it
abbrev long : ℤ → List Slot → List Slot
long n below = Second ∷ One (Long n) ∷ below

abbrev stack : List VType → Contents VType
stack ts = record { locals = []; stack = ts }

abbrev locals : List VType → Contents VType
locals ts = record { locals = ts; stack = [] }

-- ---- arithmetic

-- value1 is 2147483647 and value2 is 1
iadd_wraps : Makes (ops.Simple (simples.IntBinary ints.Add)) (int (pos 1) ∷ int (pos (2147483647)) ∷ []) (int (negsuc 2147483647) ∷ [])
unfolding int_wrap
iadd_wraps = refl

-- 1 is subtracted from 5
isub_is_value1_less_value2 : Makes (ops.Simple (simples.IntBinary ints.Sub)) (int (pos 1) ∷ int (pos 5) ∷ []) (int (pos 4) ∷ [])
unfolding int_wrap
isub_is_value1_less_value2 = refl

-- the least int divided by -1
idiv_of_the_least : Makes (ops.Simple (simples.IntBinary ints.Div)) (int (negsuc 0) ∷ int (negsuc 2147483647) ∷ []) (int (negsuc 2147483647) ∷ [])
unfolding int_wrap
idiv_of_the_least = refl

idiv_by_zero : acts (row (ops.Simple (simples.IntBinary ints.Div))) (record { locals = []; stack = int (pos 0) ∷ int (pos 7) ∷ [] }) ≡ None
idiv_by_zero = refl

idiv_by_zero_is_an_event : by_zero (row (ops.Simple (simples.IntBinary ints.Div))) (record { locals = []; stack = int (pos 0) ∷ int (pos 7) ∷ [] }) ≡ true
idiv_by_zero_is_an_event = refl

-- without operands it is undefined, and no division
idiv_of_nothing : by_zero (row (ops.Simple (simples.IntBinary ints.Div))) (record { locals = []; stack = [] }) ≡ false
idiv_of_nothing = refl

lrem_by_zero : by_zero (row (ops.Simple (simples.LongBinary longs.Rem))) (record { locals = []; stack = long (pos 0) (long (pos 7) []) }) ≡ true
lrem_by_zero = refl

-- the count 65 is 1 of six bits
lshl_by_65 : Makes (ops.Simple (simples.LongShift shifts.Shl)) (int (pos 65) ∷ long (pos 3) []) (long (pos 6) [])
unfolding int_wrap
lshl_by_65 = refl

l2i_keeps_the_low_bits : Makes (ops.Simple simples.LongToInt) (long (pos 4294967297) []) (int (pos 1) ∷ [])
unfolding int_wrap
l2i_keeps_the_low_bits = refl

-- value1 3 is less than value2 8
lcmp_less : Makes (ops.Simple simples.LongCompare) (long (pos 8) (long (pos 3) [])) (int (negsuc 0) ∷ [])
lcmp_less = refl

-- ---- the operand stack

-- dup2_x1, form 1: .., value3, value2, value1 becomes .., value2, value1, value3, value2, value1
dup2_x1_of_ints : Makes (ops.Simple simples.Dup2X1) (int (pos 1) ∷ int (pos 2) ∷ int (pos 3) ∷ []) (int (pos 1) ∷ int (pos 2) ∷ int (pos 3) ∷ int (pos 1) ∷ int (pos 2) ∷ [])
dup2_x1_of_ints = refl

-- dup2_x1, form 2: .., value2, value1 becomes .., value1, value2, value1, where value1 is a long
dup2_x1_of_a_long : Makes (ops.Simple simples.Dup2X1) (long (pos 1) (int (pos 2) ∷ [])) (long (pos 1) (int (pos 2) ∷ long (pos 1) []))
dup2_x1_of_a_long = refl

-- dup_x1: .., value2, value1 becomes .., value1, value2, value1
dup_x1_of_ints : Makes (ops.Simple simples.DupX1) (int (pos 1) ∷ int (pos 2) ∷ []) (int (pos 1) ∷ int (pos 2) ∷ int (pos 1) ∷ [])
dup_x1_of_ints = refl

swap_of_ints : Makes (ops.Simple simples.Swap) (int (pos 1) ∷ int (pos 2) ∷ []) (int (pos 2) ∷ int (pos 1) ∷ [])
swap_of_ints = refl

-- no long is split: neither by pop, nor by a pop2 that would take an int and half of a long
pop_of_a_long : Refuses (ops.Simple simples.Pop) (stack (types.Top ∷ types.Long ∷ [])) whys.Kind
pop_of_a_long = refl

pop2_of_half_a_long : Refuses (ops.Simple simples.Pop2) (stack (types.Int ∷ types.Top ∷ types.Long ∷ [])) whys.Kind
pop2_of_half_a_long = refl

pop2_of_one_int : Refuses (ops.Simple simples.Pop2) (stack (types.Int ∷ [])) whys.Depth
pop2_of_one_int = refl

dup_x2_over_a_long : Types (ops.Simple simples.DupX2) (stack (types.Int ∷ types.Top ∷ types.Long ∷ [])) (stack (types.Int ∷ types.Top ∷ types.Long ∷ types.Int ∷ []))
dup_x2_over_a_long = refl

-- a wrong type is named before a missing operand
ladd_of_an_int : Refuses (ops.Simple (simples.LongBinary longs.Add)) (stack (types.Int ∷ [])) whys.Kind
ladd_of_an_int = refl

iadd_of_one_int : Refuses (ops.Simple (simples.IntBinary ints.Add)) (stack (types.Int ∷ [])) whys.Depth
iadd_of_one_int = refl

-- ---- local variables

-- an int over the second slot of a long: the first loses its type
istore_over_a_half : Types (ops.Store kinds.Int 1) (record { locals = types.Long ∷ types.Top ∷ types.Int ∷ []; stack = types.Int ∷ [] }) (locals (types.Top ∷ types.Int ∷ types.Int ∷ []))
istore_over_a_half = refl

-- an int over the first slot: the second stays without type
istore_over_the_first : Types (ops.Store kinds.Int 0) (record { locals = types.Long ∷ types.Top ∷ []; stack = types.Int ∷ [] }) (locals (types.Int ∷ types.Top ∷ []))
istore_over_the_first = refl

-- a long over the second slot of a long and the first of another
lstore_between : Types (ops.Store kinds.Long 1) (record { locals = types.Long ∷ types.Top ∷ types.Long ∷ types.Top ∷ []; stack = types.Top ∷ types.Long ∷ [] })
    (locals (types.Top ∷ types.Long ∷ types.Top ∷ types.Top ∷ []))
lstore_between = refl

-- a long needs two local variables
lstore_at_the_last : Refuses (ops.Store kinds.Long 1) (record { locals = types.Int ∷ types.Int ∷ []; stack = types.Top ∷ types.Long ∷ [] }) whys.Locals
lstore_at_the_last = refl

lload_of_an_int : Refuses (ops.Load kinds.Long 0) (locals (types.Int ∷ [])) whys.Kind
lload_of_an_int = refl

-- an unfinished object may be stored, and keeps its type
astore_of_an_unfinished : Types (ops.Store kinds.Reference 0) (record { locals = types.Int ∷ []; stack = types.Uninit 4 ∷ [] }) (locals (types.Uninit 4 ∷ []))
astore_of_an_unfinished = refl

iinc_wraps : acts (row (ops.Increment 1 (negsuc 0))) (record { locals = int (pos 9) ∷ int (negsuc 2147483647) ∷ []; stack = [] })
    ≡ Some (record { contents = record { locals = int (pos 9) ∷ int (pos 2147483647) ∷ []; stack = [] }; way = on })
unfolding int_wrap
iinc_wraps = refl

-- ---- control

-- if_icmplt goes where value1 2 is less than value2 5
if_icmplt_goes : GoesTo (ops.IfInts orders.Less (pos 40)) (int (pos 5) ∷ int (pos 2) ∷ []) (pos 40)
if_icmplt_goes = refl

if_icmplt_goes_on : Makes (ops.IfInts orders.Less (pos 40)) (int (pos 2) ∷ int (pos 5) ∷ []) []
if_icmplt_goes_on = refl

ifnonnull_of_null : Makes (ops.IfNull samenesses.Different (pos 40)) (One Null ∷ []) []
ifnonnull_of_null = refl

if_acmpeq_of_one_object : GoesTo (ops.IfReferences samenesses.Same (pos 40)) (One (Ref 6) ∷ One (Ref 6) ∷ []) (pos 40)
if_acmpeq_of_one_object = refl

tableswitch_of_the_second : GoesTo (ops.TableSwitch (record { default = pos 9; low = negsuc 0; targets = pos 20 ∷ pos 30 ∷ [] })) (int (pos 0) ∷ []) (pos 30)
tableswitch_of_the_second = refl

tableswitch_past_the_last : GoesTo (ops.TableSwitch (record { default = pos 9; low = negsuc 0; targets = pos 20 ∷ pos 30 ∷ [] })) (int (pos 1) ∷ []) (pos 9)
tableswitch_past_the_last = refl

lookupswitch_of_a_match : GoesTo (ops.LookupSwitch (record { default = pos 9; matches = record { value = negsuc 4; target = pos 20 } ∷ record { value = pos 7; target = pos 30 } ∷ [] })) (int (pos 7) ∷ []) (pos 30)
lookupswitch_of_a_match = refl

lookupswitch_default : GoesTo (ops.LookupSwitch (record { default = pos 9; matches = record { value = negsuc 4; target = pos 20 } ∷ [] })) (int (pos 7) ∷ []) (pos 9)
lookupswitch_default = refl
