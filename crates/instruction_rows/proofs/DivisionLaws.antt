-- Which rows divide by 0, and that they are undefined there.
use Rattle.std.proofs.Common.{◌≡◌, ℤ, Bool, true, false, cond, List, [], ◌∷◌, Option, Some, None, refl, subst, ◌∙◌, sym}
use Rattle.std.specs.Prelude.{is_none, int_div, int_rem}
use Rattle.std.specs.Int.{w32, w64, int_wrap}
use Rattle.opcodes.specs.declared.op.Primitive.{Primitive}
use Rattle.opcodes.specs.declared.op.Primitive.TheVariants as primitives
use Rattle.opcodes.specs.declared.op.Op.{Op}
use Rattle.opcodes.specs.declared.op.Op.TheVariants as ops
use Rattle.opcodes.specs.declared.op.Simple.{Simple}
use Rattle.opcodes.specs.declared.op.Simple.TheVariants as simples
use Rattle.opcodes.specs.declared.op.ValueKind.TheVariants as kinds
use Rattle.jvm_words.specs.declared.operation.IntOp.{IntOp}
use Rattle.jvm_words.specs.declared.operation.IntOp.TheVariants as ints
use Rattle.jvm_words.specs.declared.operation.LongOp.{LongOp}
use Rattle.jvm_words.specs.declared.operation.LongOp.TheVariants as longs
use Rattle.jvm_words.specs.Words.{is_zero, int_result, long_result}
use Rattle.instruction_rows.specs.declared.value.Value.TheVariants.{Int, Long}
use Rattle.instruction_rows.specs.declared.value.Slot.{Slot}
use Rattle.instruction_rows.specs.declared.value.Slot.TheVariants.{One}
use Rattle.items.specs.Options.{◌>>=◌}
use Rattle.instruction_rows.specs.Contents.{Contents}
use Rattle.instruction_rows.specs.Rows.{LocalRow, int, long, local}
use Rattle.instruction_rows.specs.Table.{simple_row, new_array_row, row}
use Rattle.instruction_rows.specs.SlotEffect.{Moved, applied, acted, has_no_result, divides_by_zero}
use Rattle.instruction_rows.specs.Marks.{is_zero_int_on, is_zero_long_on, has_zero_divisor, IsAlwaysLocal}
use Rattle.instruction_rows.proofs.TableLaws.{total_result, marked}

-- ---- undefined

no_result : (o : Option (Option ℤ × List Slot)) (f : List Slot → ℤ → Option Moved) → has_no_result o ≡ true → (o >>= λ x. x.0 >>= f x.1) ≡ None
no_result None f e = absurd cc
no_result (Some x) f e = without x.0 (f x.1) e
  where
    without : (o : Option ℤ) (g : ℤ → Option Moved) → is_none o ≡ true → (o >>= g) ≡ None
    without None g e = refl
    without (Some n) g e = absurd cc

pub undefined_by_zero : (r : LocalRow) (c : Contents Slot) → divides_by_zero r c ≡ true → acted r c ≡ None
undefined_by_zero (int takes f) c e = no_result (applied (Option ℤ) takes f c.stack) _ e
undefined_by_zero (long takes f) c e = no_result (applied (Option ℤ) takes f c.stack) _ e
undefined_by_zero r c e = absurd cc

-- a row that is defined doesn't divide by 0
pub nonzero_of : (r : LocalRow) (c : Contents Slot) (m : Moved) → acted r c ≡ Some m → divides_by_zero r c ≡ false
nonzero_of r c m e = by_test (divides_by_zero r c) refl
  where
    by_test : (b : Bool) → divides_by_zero r c ≡ b → b ≡ false
    by_test true is = let none = undefined_by_zero r c is in absurd cc
    by_test false is = refl

-- ---- exactly the divisions

zero_test : (b : Bool) (x : ℤ) → is_none (cond b None (Some x)) ≡ b
zero_test true x = refl
zero_test false x = refl

int_division : (f : ℤ → ℤ → ℤ) (stack : List Slot)
    → has_no_result (applied (Option ℤ) (kinds.Int ∷ kinds.Int ∷ []) (λ b a. cond (is_zero b) None (Some (f a b))) stack) ≡ is_zero_int_on stack
int_division f (One (Int b) ∷ One (Int a) ∷ rest) = zero_test (is_zero b) (f a b)
int_division f stack = refl

long_division : (f : ℤ → ℤ → ℤ) (stack : List Slot)
    → has_no_result (applied (Option ℤ) (kinds.Long ∷ kinds.Long ∷ []) (λ b a. cond (is_zero b) None (Some (f a b))) stack) ≡ is_zero_long_on stack
long_division f (upper ∷ One (Long b) ∷ next ∷ One (Long a) ∷ rest) = zero_test (is_zero b) (f a b)
long_division f stack = refl

int_zero : (op : IntOp) (stack : List Slot)
    → has_no_result (applied (Option ℤ) (kinds.Int ∷ kinds.Int ∷ []) (λ b a. int_result op a b) stack) ≡ has_zero_divisor (ops.Simple (simples.IntBinary op)) stack
int_zero ints.Div stack = int_division (λ a b. int_wrap w32 (int_div a b)) stack
int_zero ints.Rem stack = int_division int_rem stack
int_zero op stack = total_result (kinds.Int ∷ kinds.Int ∷ []) _ stack (λ b a. refl)

long_zero : (op : LongOp) (stack : List Slot)
    → has_no_result (applied (Option ℤ) (kinds.Long ∷ kinds.Long ∷ []) (λ b a. long_result op a b) stack) ≡ has_zero_divisor (ops.Simple (simples.LongBinary op)) stack
long_zero longs.Div stack = long_division (λ a b. int_wrap w64 (int_div a b)) stack
long_zero longs.Rem stack = long_division int_rem stack
long_zero op stack = total_result (kinds.Long ∷ kinds.Long ∷ []) _ stack (λ b a. refl)

-- a row that is never a division by 0
never_zero : (r s : LocalRow) (c : Contents Slot) → IsAlwaysLocal (local r) → local r ≡ local s → divides_by_zero s c ≡ false
never_zero r s c fixed e =
    let here : local fixed.act ≡ local s = sym fixed.is ∙ e in
    let same : fixed.act ≡ s = cc in
    subst (λ (a : LocalRow). divides_by_zero a c ≡ false) same (fixed.defined c)

simple_zero : (simple : Simple) (r : LocalRow) (c : Contents Slot) → simple_row simple ≡ local r → divides_by_zero r c ≡ has_zero_divisor (ops.Simple simple) c.stack
simple_zero (simples.IntBinary op) r c e =
    let same : int (kinds.Int ∷ kinds.Int ∷ []) (λ b a. int_result op a b) ≡ r = cc in
    subst (λ (a : LocalRow). divides_by_zero a c ≡ has_zero_divisor (ops.Simple (simples.IntBinary op)) c.stack) same (int_zero op c.stack)
simple_zero (simples.LongBinary op) r c e =
    let same : long (kinds.Long ∷ kinds.Long ∷ []) (λ b a. long_result op a b) ≡ r = cc in
    subst (λ (a : LocalRow). divides_by_zero a c ≡ has_zero_divisor (ops.Simple (simples.LongBinary op)) c.stack) same (long_zero op c.stack)
simple_zero (simples.ArrayLoad element) r c e = absurd cc
simple_zero (simples.ArrayStore element) r c e = absurd cc
simple_zero (simples.ReturnValue kind) r c e = absurd cc
simple_zero simples.Return r c e = absurd cc
simple_zero simples.ArrayLength r c e = absurd cc
simple_zero simples.Throw r c e = absurd cc
simple_zero simples.MonitorEnter r c e = absurd cc
simple_zero simples.MonitorExit r c e = absurd cc
simple_zero simple r c e = never_zero _ r c (marked (ops.Simple simple)) e

new_array_zero : (primitive : Primitive) (r : LocalRow) → new_array_row primitive ≡ local r → ⊥
new_array_zero primitives.Float r e = cc
new_array_zero primitive r e = cc

pub zero_divisors : (op : Op) (r : LocalRow) (c : Contents Slot) → row op ≡ local r → divides_by_zero r c ≡ has_zero_divisor op c.stack
zero_divisors (ops.Simple simple) r c e = simple_zero simple r c e
zero_divisors (ops.PushInt n) r c e = never_zero _ r c (marked (ops.PushInt n)) e
zero_divisors (ops.PushLong n) r c e = never_zero _ r c (marked (ops.PushLong n)) e
zero_divisors (ops.Load kind n) r c e = never_zero _ r c (marked (ops.Load kind n)) e
zero_divisors (ops.Store kind n) r c e = never_zero _ r c (marked (ops.Store kind n)) e
zero_divisors (ops.Increment n amount) r c e = never_zero _ r c (marked (ops.Increment n amount)) e
zero_divisors (ops.IfZero order target) r c e = never_zero _ r c (marked (ops.IfZero order target)) e
zero_divisors (ops.IfInts order target) r c e = never_zero _ r c (marked (ops.IfInts order target)) e
zero_divisors (ops.IfReferences sameness target) r c e = never_zero _ r c (marked (ops.IfReferences sameness target)) e
zero_divisors (ops.IfNull sameness target) r c e = never_zero _ r c (marked (ops.IfNull sameness target)) e
zero_divisors (ops.Goto target) r c e = never_zero _ r c (marked (ops.Goto target)) e
zero_divisors (ops.TableSwitch s) r c e = never_zero _ r c (marked (ops.TableSwitch s)) e
zero_divisors (ops.LookupSwitch s) r c e = never_zero _ r c (marked (ops.LookupSwitch s)) e
zero_divisors (ops.NewArray primitive) r c e = absurd (new_array_zero primitive r e)
zero_divisors op r c e = absurd cc
