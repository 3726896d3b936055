-- Divisions, and what isn't one.
use Rattle.std.proofs.Common.{ℤ, ◌≡◌, Bool, true, false, List, [], ◌∷◌, Option, Some, None, refl, ap, sym, subst, ◌∙◌}
use Rattle.std.specs.Prelude.{is_none, if◌then◌else◌}
use Rattle.items.specs.Options.{◌>>=◌}
use Rattle.jvm_words.specs.declared.operation.IntOp.{IntOp}
use Rattle.jvm_words.specs.declared.operation.IntOp.TheVariants as ints
use Rattle.jvm_words.specs.declared.operation.LongOp.{LongOp}
use Rattle.jvm_words.specs.declared.operation.LongOp.TheVariants as longs
use Rattle.jvm_words.specs.Words.{is_zero, int_result, long_result}
use Rattle.opcodes.specs.declared.op.ValueKind.TheVariants as kinds
use Rattle.instruction_rows.specs.declared.value.Slot.{Slot}
use Rattle.instruction_rows.specs.SlotEffect.{applied, has_no_result, popped}
use Rattle.instruction_rows.proofs.TableLaws.{total_result}
use Rattle.continuation.specs.Continuation.{Continuation}
use Rattle.ref_model.specs.Effects.{Effect}
use Rattle.ref_model.specs.Operands.{HasOperand}
use Rattle.heap_instructions.specs.declared.outcome.Outcome.{Outcome}
use Rattle.heap_instructions.specs.declared.outcome.Outcome.TheVariants as outcomes
use Rattle.heap_instructions.specs.Operands.{room_of, operands, IsOperand}
use Rattle.heap_instructions.specs.Outcomes.{IsEffect, fitting}
use Rattle.heap_instructions.specs.Dispatch.{DividesInts, DividesLongs, IsDivided, by_zero}

-- a function that has no result for the divisor 0 alone
pub no_result : (b : Bool) (x : ℤ) → is_none (if b then None else Some x) ≡ b
no_result true x = refl
no_result false x = refl

-- ---- ints

ints_taken : (f : ℤ → ℤ → Option ℤ) (stack middle rest : List Slot) (b a : ℤ) → popped kinds.Int stack ≡ Some (b, middle) → popped kinds.Int middle ≡ Some (a, rest) →
    has_no_result (applied (Option ℤ) (kinds.Int ∷ kinds.Int ∷ []) f stack) ≡ is_none (f b a)
ints_taken f stack middle rest b a top below =
    ap (λ (o : Option (ℤ × List Slot)). has_no_result (o >>= λ x. applied (Option ℤ) (kinds.Int ∷ []) (f x.0) x.1)) top
    ∙ ap (λ (o : Option (ℤ × List Slot)). has_no_result (o >>= λ y. applied (Option ℤ) [] (f b y.0) y.1)) below

pub ints_divided : (op : IntOp) (m : Continuation) (b : ℤ) (o : Outcome) → ((b a : ℤ) → is_none (int_result op a b) ≡ is_zero b) → IsOperand kinds.Int b 0 (operands m) →
    HasOperand kinds.Int 1 (operands m) → IsDivided b o → DividesInts op m o
ints_divided op m b o test top below divided = λ q.
    let room = room_of m in
    let taken = ints_taken (λ b a. int_result op a b) (operands m) _ _ b below.operand top below.is in
    subst (λ (e : Option Effect). IsEffect room o e q (operands m)) (ap by_zero (sym (taken ∙ test b below.operand))) (divided room q (operands m))

pub ints_not_divided : (op : IntOp) (m : Continuation) → (op ≡ ints.Div → ⊥) → (op ≡ ints.Rem → ⊥) → DividesInts op m outcomes.Undefined
ints_not_divided ints.Div m quotient remainder = absurd (quotient refl)
ints_not_divided ints.Rem m quotient remainder = absurd (remainder refl)
ints_not_divided op m quotient remainder = λ q.
    ap (λ (z : Bool). fitting (room_of m) (by_zero z)) (total_result (kinds.Int ∷ kinds.Int ∷ []) _ (operands m) (λ b a. refl))

-- ---- longs

longs_taken : (f : ℤ → ℤ → Option ℤ) (stack middle rest : List Slot) (b a : ℤ) → popped kinds.Long stack ≡ Some (b, middle) → popped kinds.Long middle ≡ Some (a, rest) →
    has_no_result (applied (Option ℤ) (kinds.Long ∷ kinds.Long ∷ []) f stack) ≡ is_none (f b a)
longs_taken f stack middle rest b a top below =
    ap (λ (o : Option (ℤ × List Slot)). has_no_result (o >>= λ x. applied (Option ℤ) (kinds.Long ∷ []) (f x.0) x.1)) top
    ∙ ap (λ (o : Option (ℤ × List Slot)). has_no_result (o >>= λ y. applied (Option ℤ) [] (f b y.0) y.1)) below

pub longs_divided : (op : LongOp) (m : Continuation) (b : ℤ) (o : Outcome) → ((b a : ℤ) → is_none (long_result op a b) ≡ is_zero b) → IsOperand kinds.Long b 0 (operands m) →
    HasOperand kinds.Long 2 (operands m) → IsDivided b o → DividesLongs op m o
longs_divided op m b o test top below divided = λ q.
    let room = room_of m in
    let taken = longs_taken (λ b a. long_result op a b) (operands m) _ _ b below.operand top below.is in
    subst (λ (e : Option Effect). IsEffect room o e q (operands m)) (ap by_zero (sym (taken ∙ test b below.operand))) (divided room q (operands m))

pub longs_not_divided : (op : LongOp) (m : Continuation) → (op ≡ longs.Div → ⊥) → (op ≡ longs.Rem → ⊥) → DividesLongs op m outcomes.Undefined
longs_not_divided longs.Div m quotient remainder = absurd (quotient refl)
longs_not_divided longs.Rem m quotient remainder = absurd (remainder refl)
longs_not_divided op m quotient remainder = λ q.
    ap (λ (z : Bool). fitting (room_of m) (by_zero z)) (total_result (kinds.Long ∷ kinds.Long ∷ []) _ (operands m) (λ b a. refl))
