-- A row that fits the types of a frame keeps to them.
use Rattle.std.proofs.Common.{◌≡◌, ℕ, ℤ, ◌+ℤ◌, Bool, true, false, cond, List, [], ◌∷◌, Option, Some, None, Ok, refl, ap, subst, sym, ◌∙◌, arith}
use Rattle.std.specs.List.{IsAmong, slice_get, slice_set}
use Rattle.std.specs.Option.{is_none, ok_or}
use Rattle.std.specs.Int.{w32, int_wrap}
use Rattle.opcodes.specs.declared.op.ValueKind.{ValueKind}
use Rattle.opcodes.specs.declared.op.ValueKind.TheVariants as kinds
use Rattle.stack_maps.specs.declared.types.VType.{VType}
use Rattle.stack_maps.specs.declared.types.VType.TheVariants as types
use Rattle.instruction_rows.specs.declared.value.Value.{Value}
use Rattle.instruction_rows.specs.declared.value.Value.TheVariants as values
use Rattle.instruction_rows.specs.declared.value.Slot.{Slot}
use Rattle.instruction_rows.specs.declared.value.Slot.TheVariants as slots
use Rattle.items.specs.Options.{◌>>=◌}
use Rattle.instruction_rows.specs.Results.{◌then◌}
use Rattle.instruction_rows.specs.Kinds.{Of, Function, kind_of, kind_of_type, value, held}
use Rattle.instruction_rows.specs.Contents.{Contents, with_items, slots_of, types_of}
use Rattle.instruction_rows.specs.StackItems.{Width, items_of, items_on}
use Rattle.instruction_rows.specs.Rows.{Row, local, LocalRow, push, int, long, moves, load, store, increment, branch, jump, select, goes_on}
use Rattle.instruction_rows.specs.SlotEffect.{row_acted, on, local_value, to, Moved, popped, pushed, applied, moved_on, acted, has_no_result, divides_by_zero}
use Rattle.instruction_rows.specs.TypeEffect.{only_of, type_popped, types_popped, type_pushed, items_popped, local_type, without_half, with_type, types_on, typed}
use Rattle.instruction_rows.specs.Soundness.{AreOf, HasKinds, IsSound, IsWay, Keeps}
use Rattle.instruction_rows.proofs.Steps.{step_is, ok_is, found}
use Rattle.instruction_rows.proofs.KindLaws.{only_is, holds, is_of, kind_of_value, pushed_kinds, slots_kinds}
use Rattle.instruction_rows.proofs.ListLaws.{slot_at, put_of, half_of, with_items_of}
use Rattle.instruction_rows.proofs.StackLaws.{popped_of, applied_of}
use Rattle.instruction_rows.proofs.ItemLaws.{items_at, items_on_of}

-- a row that goes on with these local variables and this stack
goes_with : (r : LocalRow) (after : Contents VType) (us ts : List VType) (made : Option Moved) (locals stack : List Slot) → goes_on r ≡ true
    → types_on us ts ≡ Ok after → AreOf us locals → AreOf ts stack → made ≡ moved_on locals stack → Keeps r after made
goes_with r after us ts made locals stack goes e of_locals of_stack is =
    let pair : Contents VType = record { locals = us; stack = ts } in
    let same : pair ≡ after = cc in
    subst (λ (a : Contents VType). Keeps r a made) same
    (record { moved = record { contents = record { locals = locals; stack = stack }; way = on }; is = is; kinds = record { locals = of_locals; stack = of_stack }; way = goes })

-- a function that doesn't divide by 0 has a result
has_result : (o : Option ℤ) → is_none o ≡ false → (n : ℤ) × (o ≡ Some n)
has_result None e = absurd cc
has_result (Some n) e = (n, refl)

-- a row that pushes what a function gives of the operands
pushes_with : (r : LocalRow) (takes : List ValueKind) (f : Function takes (Option ℤ)) (t : VType) (number : ℤ → Value) (before after : Contents VType) (c : Contents Slot) → goes_on r ≡ true
    → ((n : ℤ) → kind_of_type t ≡ Some (kind_of (number n))) → (types_popped takes before.stack then λ stack. types_on before.locals (type_pushed t stack)) ≡ Ok after
    → HasKinds before c → has_no_result (applied (Option ℤ) takes f c.stack) ≡ false
    → Keeps r after (applied (Option ℤ) takes f c.stack >>= λ x. x.0 >>= λ n. moved_on c.locals (pushed (number n) x.1))
pushes_with r takes f t number before after c goes kind e h nonzero =
    let first = ok_is (types_popped takes before.stack) (λ stack. types_on before.locals (type_pushed t stack)) after e in
    let top = applied_of (Option ℤ) takes f before.stack first.0 c.stack first.1 h.stack in
    let some : is_none top.result ≡ false = rw top.is at nonzero in
    let n = has_result top.result some in
    let made = moved_on c.locals (pushed (number n.0) top.left) in
    goes_with r after before.locals (type_pushed t first.0) _ c.locals (pushed (number n.0) top.left) goes first.2 h.locals (pushed_kinds t (number n.0) first.0 top.left (kind n.0) top.of)
    (step_is (applied (Option ℤ) takes f c.stack) (λ x. x.0 >>= λ n. moved_on c.locals (pushed (number n) x.1)) (top.result, top.left) top.is
    ∙ (step_is top.result (λ n. moved_on c.locals (pushed (number n) top.left)) n.0 n.1))

moves_with : (widths : List Width) (order : List ℕ) (before after : Contents VType) (c : Contents Slot) → typed (moves widths order) before ≡ Ok after → HasKinds before c
    → Keeps (moves widths order) after (acted (moves widths order) c)
moves_with widths order before after c e h =
    let first = ok_is (items_popped widths before.stack) (λ x. types_on before.locals (items_on x.0 order x.1)) after e in
    let top = items_at widths before.stack first.0 c.stack first.1 h.stack in
    goes_with (moves widths order) after before.locals (items_on first.0.0 order first.0.1) _ c.locals (items_on top.items order top.left) refl first.2 h.locals
    (items_on_of first.0.0 top.items order first.0.1 top.left top.item_kinds top.of)
    (step_is (items_of widths c.stack) (λ x. moved_on c.locals (items_on x.0 order x.1)) (top.items, top.left) top.is)

-- the value in a local variable of this type
pub record LocalValue (k : ValueKind) (n : ℕ) (t : VType) (ts : List VType) (xs : List Slot) : Type 0 where
  pub value : Of k
  pub is : local_value k n xs ≡ Some value
  pub kind : kind_of_type t ≡ Some k
  pub there : slice_get ts n ≡ Some t

pub local_value_of : (k : ValueKind) (n : ℕ) (t : VType) (ts : List VType) (xs : List Slot) → local_type k n ts ≡ Ok t → AreOf ts xs → LocalValue k n t ts xs
local_value_of k n t ts xs e of =
    let first = ok_is (ok_or (slice_get ts n) _) (λ u. only_of k u u) t e in
    let only = only_is k first.0 first.0 t first.2 in
    let there = found (slice_get ts n) first.0 _ first.1 in
    let at = slot_at ts xs n first.0 of there in
    let hold = holds k first.0 at.slot only.0 at.of in
    subst (λ (u : VType). LocalValue k n u ts xs) only.1
    (record { value = hold.value; is = step_is (slice_get xs n) (held k) at.slot at.is ∙ hold.is; kind = only.0; there = there })

load_with : (k : ValueKind) (n : ℕ) (before after : Contents VType) (c : Contents Slot) → typed (load k n) before ≡ Ok after → HasKinds before c → Keeps (load k n) after (acted (load k n) c)
load_with k n before after c e h =
    let first = ok_is (local_type k n before.locals) (λ t. types_on before.locals (type_pushed t before.stack)) after e in
    let at = local_value_of k n first.0 before.locals c.locals first.1 h.locals in
    let v = value k at.value in
    let kind : kind_of_type first.0 ≡ Some (kind_of v) = at.kind ∙ ap Some (sym (kind_of_value k at.value)) in
    goes_with (load k n) after before.locals (type_pushed first.0 before.stack) _ c.locals (pushed v c.stack) refl first.2 h.locals (pushed_kinds first.0 v before.stack c.stack kind h.stack)
    (step_is (local_value k n c.locals) (λ x. moved_on c.locals (pushed (value k x) c.stack)) at.value at.is)

store_acts : (k : ValueKind) (n : ℕ) (c : Contents Slot) (x : Of k × List Slot) (locals : List Slot) → popped k c.stack ≡ Some x → with_items n (slots_of (value k x.0)) c.locals ≡ Some locals
    → acted (store k n) c ≡ moved_on locals x.1
store_acts k n c x locals pops writes = rw (pops, writes) refl

store_with : (k : ValueKind) (n : ℕ) (before after : Contents VType) (c : Contents Slot) → typed (store k n) before ≡ Ok after → HasKinds before c → Keeps (store k n) after (acted (store k n) c)
store_with k n before after c e h =
    let first = ok_is (type_popped k before.stack) (λ x. with_type x.0 n before.locals then λ locals. types_on locals x.1) after e in
    let second = ok_is (with_type first.0.0 n before.locals) (λ locals. types_on locals first.0.1) after first.2 in
    let top = popped_of k before.stack first.0 c.stack first.1 h.stack in
    let v = value k top.value in
    let kind : kind_of_type first.0.0 ≡ Some (kind_of v) = top.kind ∙ ap Some (sym (kind_of_value k top.value)) in
    let written = found (with_items n (types_of first.0.0) (without_half n before.locals)) second.0 _ second.1 in
    let wrote = with_items_of (types_of first.0.0) (slots_of v) n (without_half n before.locals) second.0 c.locals (slots_kinds first.0.0 v kind) (half_of before.locals c.locals n h.locals) written in
    goes_with (store k n) after second.0 first.0.1 _ wrote.made top.left refl second.2 wrote.of top.of
    (store_acts k n c (top.value, top.left) wrote.made top.is wrote.is)

increment_with : (n : ℕ) (amount : ℤ) (before after : Contents VType) (c : Contents Slot) → typed (increment n amount) before ≡ Ok after → HasKinds before c
    → Keeps (increment n amount) after (acted (increment n amount) c)
increment_with n amount before after c e h =
    let first = ok_is (local_type kinds.Int n before.locals) (λ t. Ok before) after e in
    let at = local_value_of kinds.Int n first.0 before.locals c.locals first.1 h.locals in
    let sum = int_wrap w32 (at.value +ℤ amount) in
    let slot = slots.One (values.Int sum) in
    goes_with (increment n amount) after before.locals before.stack _ (slice_set c.locals n slot) c.stack refl first.2
    (put_of before.locals c.locals n first.0 slot h.locals at.there (is_of kinds.Int first.0 slot at.kind (record { value = sum; is = refl }))) h.stack
    (step_is (local_value kinds.Int n c.locals) (λ x. moved_on (slice_set c.locals n (slots.One (values.Int (int_wrap w32 (x +ℤ amount))))) c.stack) at.value at.is)

first_among : (x : ℤ) (xs : List ℤ) → IsAmong (x ∷ xs) x
first_among x xs = (0, (omega arith, refl))

branch_with : (takes : List ValueKind) (test : Function takes Bool) (target : ℤ) (before after : Contents VType) (c : Contents Slot) → typed (branch takes test target) before ≡ Ok after → HasKinds before c
    → Keeps (branch takes test target) after (acted (branch takes test target) c)
branch_with takes test target before after c e h =
    let first = ok_is (types_popped takes before.stack) (λ stack. types_on before.locals stack) after e in
    let top = applied_of Bool takes test before.stack first.0 c.stack first.1 h.stack in
    let pair : Contents VType = record { locals = before.locals; stack = first.0 } in
    let same : pair ≡ after = cc in
    let way : IsWay (branch takes test target) (cond top.result (to target) on) =
    elim top.result as (λ b. IsWay (branch takes test target) (cond b (to target) on)) [ true ↦ first_among target [] | false ↦ refl ] in
    subst (λ (a : Contents VType). Keeps (branch takes test target) a (acted (branch takes test target) c)) same
    (record {
      moved = record { contents = record { locals = c.locals; stack = top.left }; way = cond top.result (to target) on };
      is = step_is (applied Bool takes test c.stack) (λ x. Some (record { contents = record c { stack = x.1 }; way = cond x.0 (to target) on })) (top.result, top.left) top.is;
      kinds = record { locals = h.locals; stack = top.of };
      way = way;
    })

jump_with : (target : ℤ) (before after : Contents VType) (c : Contents Slot) → typed (jump target) before ≡ Ok after → HasKinds before c → Keeps (jump target) after (acted (jump target) c)
jump_with target before after c e h =
    let same : before ≡ after = cc in
    record { moved = record { contents = c; way = to target }; is = refl; kinds = subst (λ (a : Contents VType). HasKinds a c) same h; way = first_among target [] }

select_with : (choice : ℤ → ℤ) (targets : List ℤ) (before after : Contents VType) (c : Contents Slot) → IsSound (select choice targets) → typed (select choice targets) before ≡ Ok after → HasKinds before c
    → Keeps (select choice targets) after (acted (select choice targets) c)
select_with choice targets before after c sound e h =
    let first = ok_is (type_popped kinds.Int before.stack) (λ x. types_on before.locals x.1) after e in
    let top = popped_of kinds.Int before.stack first.0 c.stack first.1 h.stack in
    let pair : Contents VType = record { locals = before.locals; stack = first.0.1 } in
    let same : pair ≡ after = cc in
    subst (λ (a : Contents VType). Keeps (select choice targets) a (acted (select choice targets) c)) same
    (record {
      moved = record { contents = record { locals = c.locals; stack = top.left }; way = to (choice top.value) };
      is = step_is (popped kinds.Int c.stack) (λ x. Some (record { contents = record c { stack = x.1 }; way = to (choice x.0) })) (top.value, top.left) top.is;
      kinds = record { locals = h.locals; stack = top.of };
      way = sound top.value;
    })

pub keeps : (r : LocalRow) (before after : Contents VType) (c : Contents Slot) → IsSound r → typed r before ≡ Ok after → HasKinds before c → divides_by_zero r c ≡ false → Keeps r after (acted r c)
keeps (push t v) before after c sound e h nonzero =
    goes_with (push t v) after before.locals (type_pushed t before.stack) _ c.locals (pushed v c.stack) refl e h.locals (pushed_kinds t v before.stack c.stack sound h.stack) refl
keeps (int takes f) before after c sound e h nonzero = pushes_with (int takes f) takes f types.Int values.Int before after c refl (λ n. refl) e h nonzero
keeps (long takes f) before after c sound e h nonzero = pushes_with (long takes f) takes f types.Long values.Long before after c refl (λ n. refl) e h nonzero
keeps (moves widths order) before after c sound e h nonzero = moves_with widths order before after c e h
keeps (load k n) before after c sound e h nonzero = load_with k n before after c e h
keeps (store k n) before after c sound e h nonzero = store_with k n before after c e h
keeps (increment n amount) before after c sound e h nonzero = increment_with n amount before after c e h
keeps (branch takes test target) before after c sound e h nonzero = branch_with takes test target before after c e h
keeps (jump target) before after c sound e h nonzero = jump_with target before after c e h
keeps (select choice targets) before after c sound e h nonzero = select_with choice targets before after c sound e h

-- what has a row of slots alone is local
pub local_of : (r : Row) (c : Contents Slot) (m : Moved) → row_acted r c ≡ Some m → (act : LocalRow) × (r ≡ local act) × (acted act c ≡ Some m)
local_of (local r) c m e = (r, refl, e)
local_of r c m e = absurd cc
