-- The rows of the table go where they may, and are local as their instructions are marked.
use Rattle.std.proofs.Common.{◌≡◌, ℕ, zero, suc, ◌-ℤ◌, ℤ, true, false, cond, List, [], ◌∷◌, get_or, map, Option, Some, None, refl, arith}
use Rattle.std.specs.Prelude.{is_none, unsigned_abs, int_lt, find, option_map, unwrap_or}
use Rattle.std.specs.Ordering.{int_eq}
use Rattle.std.specs.List.{IsAmong}
use Rattle.opcodes.specs.declared.op.Op.{Op}
use Rattle.opcodes.specs.declared.op.Op.TheVariants as ops
use Rattle.opcodes.specs.declared.op.Simple.{Simple}
use Rattle.opcodes.specs.declared.op.Simple.TheVariants as simples
use Rattle.opcodes.specs.declared.op.ValueKind.{ValueKind}
use Rattle.opcodes.specs.declared.op.Primitive.{Primitive}
use Rattle.opcodes.specs.declared.op.Primitive.TheVariants as primitives
use Rattle.opcodes.specs.declared.switch.TableSwitch.{TableSwitch}
use Rattle.opcodes.specs.declared.switch.LookupSwitch.{LookupSwitch}
use Rattle.opcodes.specs.declared.switch.Match.{Match}
use Rattle.jvm_words.specs.declared.operation.IntOp.{IntOp}
use Rattle.jvm_words.specs.declared.operation.IntOp.TheVariants as ints
use Rattle.jvm_words.specs.declared.operation.LongOp.{LongOp}
use Rattle.jvm_words.specs.declared.operation.LongOp.TheVariants as longs
use Rattle.instruction_rows.specs.declared.value.Slot.{Slot}
use Rattle.items.specs.Options.{◌>>=◌}
use Rattle.instruction_rows.specs.Kinds.{Of, Function}
use Rattle.instruction_rows.specs.Contents.{Contents}
use Rattle.instruction_rows.specs.Switches.{table_target, table_targets, match_target, lookup_target, lookup_targets}
use Rattle.instruction_rows.specs.Rows.{LocalRow, int, long, local}
use Rattle.instruction_rows.specs.Table.{simple_row, new_array_row, row}
use Rattle.instruction_rows.specs.SlotEffect.{popped, applied, has_no_result, divides_by_zero}
use Rattle.instruction_rows.specs.Soundness.{IsSoundRow}
use Rattle.instruction_rows.specs.Marks.{IsAlwaysLocal, HasMark, int_mark, long_mark, simple_mark, new_array_mark, mark}

-- ---- switches

among_second : (a b v : ℤ) (xs : List ℤ) → IsAmong (a ∷ xs) v → IsAmong (a ∷ b ∷ xs) v
among_second a b v xs (zero, at) = (0, (omega arith, at.1))
among_second a b v xs (suc i, at) = (suc (suc i), (omega arith, at.1))

among_default : (xs : List ℤ) (k : ℕ) (d : ℤ) → IsAmong (d ∷ xs) (get_or xs k d)
among_default [] k d = (0, (omega arith, refl))
among_default (x ∷ xs) zero d = (1, (omega arith, refl))
among_default (x ∷ xs) (suc k) d = among_second d x _ xs (among_default xs k d)

pub table_among : (s : TableSwitch) (n : ℤ) → IsAmong (table_targets s) (table_target s n)
table_among s n =
    let place = unsigned_abs (n -ℤ s.low) in
    elim (int_lt n s.low) as (λ b. IsAmong (table_targets s) (cond b s.default (get_or s.targets place s.default)))
    [ true ↦ (0, (omega arith, refl)) | false ↦ among_default s.targets place s.default ]

match_among : (ms : List Match) (n d : ℤ) → IsAmong (d ∷ map match_target ms) (unwrap_or (option_map match_target (find (λ (m : Match). int_eq m.value n) ms)) d)
match_among [] n d = (0, (omega arith, refl))
match_among (m ∷ ms) n d =
    elim (int_eq m.value n) as (λ b. IsAmong (d ∷ m.target ∷ map match_target ms) (unwrap_or (option_map match_target (cond b (Some m) (find (λ (m : Match). int_eq m.value n) ms))) d))
    [ true ↦ (1, (omega arith, refl)) | false ↦ among_second d m.target _ (map match_target ms) (match_among ms n d) ]

pub lookup_among : (s : LookupSwitch) (n : ℤ) → IsAmong (lookup_targets s) (lookup_target s n)
lookup_among s n = match_among s.matches n s.default

-- ---- what is pushed is of its type

simple_sound : (simple : Simple) → IsSoundRow (simple_row simple)
simple_sound simples.PushNull = refl
simple_sound simple = tt

new_array_sound : (primitive : Primitive) → IsSoundRow (new_array_row primitive)
new_array_sound primitives.Float = tt
new_array_sound primitive = tt

pub sound : (op : Op) → IsSoundRow (row op)
sound (ops.Simple simple) = simple_sound simple
sound (ops.PushInt n) = refl
sound (ops.PushLong n) = refl
sound (ops.TableSwitch s) = table_among s
sound (ops.LookupSwitch s) = lookup_among s
sound (ops.NewArray primitive) = new_array_sound primitive
sound op = tt

-- ---- marks

-- a function that never divides by 0
abbrev pub Total : (takes : List ValueKind) → Function takes (Option ℤ) → Type 0
Total [] o = is_none o ≡ false
Total (k ∷ ks) f = (x : Of k) → Total ks (f x)

pub total_result : (takes : List ValueKind) (f : Function takes (Option ℤ)) (stack : List Slot) → Total takes f → has_no_result (applied (Option ℤ) takes f stack) ≡ false
total_result [] f stack total = total
total_result (k ∷ ks) f stack total = elim (popped k stack) as (λ o. has_no_result (o >>= λ x. applied (Option ℤ) ks (f x.0) x.1) ≡ false) [ None ↦ refl | Some x ↦ total_result ks (f x.0) x.1 (total x.0) ]

always_local : (r : LocalRow) → ((c : Contents Slot) → divides_by_zero r c ≡ false) → IsAlwaysLocal (local r)
always_local r defined = record { act = r; is = refl; defined = defined }

int_local : (takes : List ValueKind) (f : Function takes (Option ℤ)) → Total takes f → IsAlwaysLocal (local (int takes f))
int_local takes f total = always_local (int takes f) (λ c. total_result takes f c.stack total)

long_local : (takes : List ValueKind) (f : Function takes (Option ℤ)) → Total takes f → IsAlwaysLocal (local (long takes f))
long_local takes f total = always_local (long takes f) (λ c. total_result takes f c.stack total)

int_marked : (op : IntOp) → HasMark (int_mark op) (simple_row (simples.IntBinary op))
int_marked ints.Div = record { act = _; is = refl }
int_marked ints.Rem = record { act = _; is = refl }
int_marked op = int_local _ _ (λ b a. refl)

long_marked : (op : LongOp) → HasMark (long_mark op) (simple_row (simples.LongBinary op))
long_marked longs.Div = record { act = _; is = refl }
long_marked longs.Rem = record { act = _; is = refl }
long_marked op = long_local _ _ (λ b a. refl)

simple_marked : (simple : Simple) → HasMark (simple_mark simple) (simple_row simple)
simple_marked (simples.ArrayLoad element) = refl
simple_marked (simples.ArrayStore element) = refl
simple_marked (simples.IntBinary op) = int_marked op
simple_marked (simples.LongBinary op) = long_marked op
simple_marked (simples.LongShift op) = long_local _ _ (λ b a. refl)
simple_marked simples.IntNegate = int_local _ _ (λ a. refl)
simple_marked simples.LongNegate = long_local _ _ (λ a. refl)
simple_marked simples.IntToLong = long_local _ _ (λ a. refl)
simple_marked simples.LongToInt = int_local _ _ (λ a. refl)
simple_marked (simples.IntNarrow to) = int_local _ _ (λ a. refl)
simple_marked simples.LongCompare = int_local _ _ (λ b a. refl)
simple_marked (simples.ReturnValue kind) = refl
simple_marked simples.Return = refl
simple_marked simples.ArrayLength = refl
simple_marked simples.Throw = refl
simple_marked simples.MonitorEnter = refl
simple_marked simples.MonitorExit = refl
simple_marked simple = always_local _ (λ c. refl)

new_array_marked : (primitive : Primitive) → HasMark (new_array_mark primitive) (new_array_row primitive)
new_array_marked primitives.Float = refl
new_array_marked primitive = refl

pub marked : (op : Op) → HasMark (mark op) (row op)
marked (ops.Simple simple) = simple_marked simple
marked (ops.PushInt n) = always_local _ (λ c. refl)
marked (ops.PushLong n) = always_local _ (λ c. refl)
marked (ops.Load kind n) = always_local _ (λ c. refl)
marked (ops.Store kind n) = always_local _ (λ c. refl)
marked (ops.Increment n amount) = always_local _ (λ c. refl)
marked (ops.IfZero c target) = always_local _ (λ c. refl)
marked (ops.IfInts c target) = always_local _ (λ c. refl)
marked (ops.IfReferences s target) = always_local _ (λ c. refl)
marked (ops.IfNull s target) = always_local _ (λ c. refl)
marked (ops.Goto target) = always_local _ (λ c. refl)
marked (ops.TableSwitch s) = always_local _ (λ c. refl)
marked (ops.LookupSwitch s) = always_local _ (λ c. refl)
marked (ops.NewArray primitive) = new_array_marked primitive
marked op = refl
