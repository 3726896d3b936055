-- The frame of a synchronized method, with a local variable more than its code names.
use Rattle.std.proofs.Common.{◌≡◌, ℕ, zero, suc, ◌<◌, ◌≤◌, Bool, true, false, List, [], ◌∷◌, ◌++◌, length, Option, Some, None, refl, ap, ◌∙◌, arith}
use Rattle.std.specs.Prelude.{nat_lt, slice_get, slice_set, if◌then◌else◌}
use Rattle.std.specs.Option.{option_map_or}
use Rattle.std.proofs.lemmas.Bool.{ltb-true, lt-ltb}
use Rattle.items.specs.Options.{◌>>=◌}
use Rattle.items.proofs.Binds.{some_is, bind_is}
use Rattle.opcodes.specs.declared.op.ValueKind.{ValueKind}
use Rattle.opcodes.specs.declared.op.ValueKind.TheVariants as kinds
use Rattle.instruction_rows.specs.declared.value.Value.TheVariants as values
use Rattle.instruction_rows.specs.declared.value.Slot.{Slot}
use Rattle.instruction_rows.specs.declared.value.Slot.TheVariants.{One}
use Rattle.std.specs.Int.{w32, int_wrap}
use Rattle.std.specs.Prelude.{ℤ, ◌+ℤ◌}
use Rattle.instruction_rows.specs.Contents.{Contents, slots_of, with_item, with_items}
use Rattle.instruction_rows.specs.Kinds.{Of, value, held}
use Rattle.instruction_rows.specs.StackItems.{items_of, items_on}
use Rattle.instruction_rows.specs.Rows.{LocalRow, push, int, long, moves, load, store, increment, branch, jump, select}
use Rattle.instruction_rows.specs.SlotEffect.{Moved, Way, on, to, popped, pushed, applied, local_value, moved_by, moved_on, acted, divides_by_zero}
use Rattle.link_model.specs.declared.members.MethodInfo.{MethodInfo}
use Rattle.link_model.specs.Initializers.{is_synchronized}
use Rattle.link_model.specs.World.{World}
use Rattle.ref_model.specs.Monitors.{is_synchronized_at}
use Rattle.frame_soundness.specs.Typed.{but_last, own_locals}

-- ---- a list without its last item

pub last_dropped : {A : Type 0} (xs : List A) (x : A) → but_last (xs ++ x ∷ []) ≡ xs
last_dropped [] x = refl
last_dropped (y ∷ []) x = refl
last_dropped (y ∷ z ∷ rest) x = ap (λ ys. y ∷ ys) (last_dropped (z ∷ rest) x)

fewer : {A : Type 0} (xs : List A) → length (but_last xs) ≤ length xs
fewer [] = omega arith
fewer (x ∷ []) = omega arith
fewer (x ∷ y ∷ rest) = let less = fewer (y ∷ rest) in omega arith

got_before : {A : Type 0} (xs : List A) (n : ℕ) (x : A) → slice_get (but_last xs) n ≡ Some x → slice_get xs n ≡ Some x
got_before [] n x e = absurd cc
got_before (y ∷ []) n x e = absurd cc
got_before (y ∷ z ∷ rest) zero x e = e
got_before (y ∷ z ∷ rest) (suc n) x e = got_before (z ∷ rest) n x e

in_range : {A : Type 0} (xs : List A) (n : ℕ) (x : A) → slice_get xs n ≡ Some x → n < length xs
in_range [] n x e = absurd cc
in_range (y ∷ xs) zero x e = omega arith
in_range (y ∷ xs) (suc n) x e = let low = in_range xs n x e in omega arith

set_before : {A : Type 0} (xs : List A) (n : ℕ) (x : A) → n < length (but_last xs) → but_last (slice_set xs n x) ≡ slice_set (but_last xs) n x
set_before [] n x low = absurd (omega arith)
set_before (y ∷ []) n x low = absurd (omega arith)
set_before (y ∷ z ∷ rest) zero x low = refl
set_before (y ∷ z ∷ rest) (suc zero) x low = ap (λ ys. y ∷ ys) (set_before (z ∷ rest) zero x (omega arith))
set_before (y ∷ z ∷ rest) (suc (suc n)) x low = ap (λ ys. y ∷ ys) (set_before (z ∷ rest) (suc n) x (omega arith))

-- ---- writes

-- what was written into the list without its last item, and into the whole list
record Written (xs ys : List Slot) (made : Option (List Slot)) : Type 0 where
  pub whole : List Slot
  pub is : made ≡ Some whole
  pub own : but_last whole ≡ ys

if_some : {A : Type 0} (b : Bool) (x y : A) → (if b then Some x else None) ≡ Some y → (b ≡ true) × (x ≡ y)
if_some true x y e = (refl, cc)
if_some false x y e = absurd cc

if_true : {A : Type 0} (b : Bool) (x y : A) → b ≡ true → (if b then x else y) ≡ x
if_true true x y e = refl
if_true false x y e = absurd cc

item_before : (n : ℕ) (x : Slot) (xs ys : List Slot) → with_item n x (but_last xs) ≡ Some ys → Written xs ys (with_item n x xs)
item_before n x xs ys e =
    let made = if_some (nat_lt n (length (but_last xs))) (slice_set (but_last xs) n x) ys e in
    let low = ltb-true n (length (but_last xs)) made.0 in
    let more = fewer xs in
    let fits : n < length xs = omega arith in
    record {
      whole = slice_set xs n x;
      is = if_true (nat_lt n (length xs)) (Some (slice_set xs n x)) None (lt-ltb n (length xs) fits);
      own = set_before xs n x low ∙ made.1;
    }

items_before : (n : ℕ) (items xs ys : List Slot) → with_items n items (but_last xs) ≡ Some ys → Written xs ys (with_items n items xs)
items_before n [] xs ys e = record { whole = xs; is = refl; own = cc }
items_before n (x ∷ items) xs ys e =
    let one = some_is (with_item n x (but_last xs)) (λ zs. with_items (suc n) items zs) ys e in
    let first = item_before n x xs one.0 one.1 in
    let there : with_items (suc n) items (but_last first.whole) ≡ Some ys = ap (with_items (suc n) items) first.own ∙ one.2 in
    let rest = items_before (suc n) items first.whole ys there in
    record {
      whole = rest.whole;
      is = bind_is (with_item n x xs) (λ zs. with_items (suc n) items zs) first.whole (Some rest.whole) first.is rest.is;
      own = rest.own;
    }

-- ---- rows

abbrev part : Bool → List Slot → List Slot
part b locals = if b then but_last locals else locals

abbrev with_part : Bool → Contents Slot → Contents Slot
with_part b c = record { locals = part b c.locals; stack = c.stack }

-- a row of the slots that the code names, and of all
pub record ActsAlike (b : Bool) (made : Option Moved) (m : Moved) : Type 0 where
  pub moved : Moved
  pub is : made ≡ Some moved
  pub own : part b moved.contents.locals ≡ m.contents.locals
  pub stack : moved.contents.stack ≡ m.contents.stack
  pub way : moved.way ≡ m.way

same_moved : (a b : Moved) → ◌≡◌ {A = Option Moved} (Some a) (Some b) → a ≡ b
same_moved a b e = cc

-- a row that leaves local variables as they are
stays : (b : Bool) (c : Contents Slot) (way : Way) (stack : List Slot) (m : Moved) (made : Option Moved) → moved_by way (part b c.locals) stack ≡ Some m
    → made ≡ moved_by way c.locals stack → ActsAlike b made m
stays b c way stack m made e is =
    let same = same_moved (record { contents = record { locals = part b c.locals; stack = stack }; way = way }) m e in
    record {
      moved = record { contents = record { locals = c.locals; stack = stack }; way = way };
      is = is;
      own = ap (λ (x : Moved). x.contents.locals) same;
      stack = ap (λ (x : Moved). x.contents.stack) same;
      way = ap (λ (x : Moved). x.way) same;
    }

read_before : (b : Bool) (k : ValueKind) (n : ℕ) (xs : List Slot) (x : Of k) → local_value k n (part b xs) ≡ Some x → local_value k n xs ≡ Some x
read_before false k n xs x e = e
read_before true k n xs x e =
    let slot = some_is (slice_get (but_last xs) n) (held k) x e in
    bind_is (slice_get xs n) (held k) slot.0 (Some x) (got_before xs n slot.0 slot.1) slot.2

written_before : (b : Bool) (n : ℕ) (items xs ys : List Slot) → with_items n items (part b xs) ≡ Some ys
    → (zs : List Slot) × (with_items n items xs ≡ Some zs) × (part b zs ≡ ys)
written_before false n items xs ys e = (ys, e, refl)
written_before true n items xs ys e = let w = items_before n items xs ys e in (w.whole, w.is, w.own)

set_part : (b : Bool) (xs : List Slot) (n : ℕ) (old x : Slot) → slice_get (part b xs) n ≡ Some old → part b (slice_set xs n x) ≡ slice_set (part b xs) n x
set_part false xs n old x e = refl
set_part true xs n old x e = set_before xs n x (in_range (but_last xs) n old e)

pub acts_alike : (b : Bool) (r : LocalRow) (c : Contents Slot) (m : Moved) → acted r (with_part b c) ≡ Some m → ActsAlike b (acted r c) m
acts_alike b (push t v) c m e = stays b c on (pushed v c.stack) m _ e refl
acts_alike b (int takes f) c m e =
    let x = some_is (applied (Option ℤ) takes f c.stack) (λ x. x.0 >>= λ n. moved_on (part b c.locals) (pushed (values.Int n) x.1)) m e in
    let n = some_is x.0.0 (λ n. moved_on (part b c.locals) (pushed (values.Int n) x.0.1)) m x.2 in
    stays b c on (pushed (values.Int n.0) x.0.1) m _ n.2
    (bind_is (applied (Option ℤ) takes f c.stack) (λ x. x.0 >>= λ n. moved_on c.locals (pushed (values.Int n) x.1)) x.0
    (moved_on c.locals (pushed (values.Int n.0) x.0.1)) x.1
    (bind_is x.0.0 (λ n. moved_on c.locals (pushed (values.Int n) x.0.1)) n.0 (moved_on c.locals (pushed (values.Int n.0) x.0.1)) n.1 refl))
acts_alike b (long takes f) c m e =
    let x = some_is (applied (Option ℤ) takes f c.stack) (λ x. x.0 >>= λ n. moved_on (part b c.locals) (pushed (values.Long n) x.1)) m e in
    let n = some_is x.0.0 (λ n. moved_on (part b c.locals) (pushed (values.Long n) x.0.1)) m x.2 in
    stays b c on (pushed (values.Long n.0) x.0.1) m _ n.2
    (bind_is (applied (Option ℤ) takes f c.stack) (λ x. x.0 >>= λ n. moved_on c.locals (pushed (values.Long n) x.1)) x.0
    (moved_on c.locals (pushed (values.Long n.0) x.0.1)) x.1
    (bind_is x.0.0 (λ n. moved_on c.locals (pushed (values.Long n) x.0.1)) n.0 (moved_on c.locals (pushed (values.Long n.0) x.0.1)) n.1 refl))
acts_alike b (moves widths order) c m e =
    let x = some_is (items_of widths c.stack) (λ x. moved_on (part b c.locals) (items_on x.0 order x.1)) m e in
    stays b c on (items_on x.0.0 order x.0.1) m _ x.2
    (bind_is (items_of widths c.stack) (λ x. moved_on c.locals (items_on x.0 order x.1)) x.0 (moved_on c.locals (items_on x.0.0 order x.0.1)) x.1 refl)
acts_alike b (load k n) c m e =
    let x = some_is (local_value k n (part b c.locals)) (λ x. moved_on (part b c.locals) (pushed (value k x) c.stack)) m e in
    stays b c on (pushed (value k x.0) c.stack) m _ x.2
    (bind_is (local_value k n c.locals) (λ x. moved_on c.locals (pushed (value k x) c.stack)) x.0 (moved_on c.locals (pushed (value k x.0) c.stack))
    (read_before b k n c.locals x.0 x.1) refl)
acts_alike b (store k n) c m e =
    let x = some_is (popped k c.stack) (λ x. with_items n (slots_of (value k x.0)) (part b c.locals) >>= λ locals. moved_on locals x.1) m e in
    let y = some_is (with_items n (slots_of (value k x.0.0)) (part b c.locals)) (λ locals. moved_on locals x.0.1) m x.2 in
    let w = written_before b n (slots_of (value k x.0.0)) c.locals y.0 y.1 in
    let same = same_moved (record { contents = record { locals = y.0; stack = x.0.1 }; way = on }) m y.2 in
    record {
      moved = record { contents = record { locals = w.0; stack = x.0.1 }; way = on };
      is = bind_is (popped k c.stack) (λ x. with_items n (slots_of (value k x.0)) c.locals >>= λ locals. moved_on locals x.1) x.0
          (moved_on w.0 x.0.1) x.1
          (bind_is (with_items n (slots_of (value k x.0.0)) c.locals) (λ locals. moved_on locals x.0.1) w.0 (moved_on w.0 x.0.1) w.1 refl);
      own = w.2 ∙ ap (λ (z : Moved). z.contents.locals) same;
      stack = ap (λ (z : Moved). z.contents.stack) same;
      way = ap (λ (z : Moved). z.way) same;
    }
acts_alike b (increment n amount) c m e =
    let x = some_is (local_value kinds.Int n (part b c.locals))
    (λ x. moved_on (slice_set (part b c.locals) n (One (values.Int (int_wrap w32 (x +ℤ amount))))) c.stack) m e in
    let old = some_is (slice_get (part b c.locals) n) (held kinds.Int) x.0 x.1 in
    let slot : Slot = One (values.Int (int_wrap w32 (x.0 +ℤ amount))) in
    let same = same_moved (record { contents = record { locals = slice_set (part b c.locals) n slot; stack = c.stack }; way = on }) m x.2 in
    record {
      moved = record { contents = record { locals = slice_set c.locals n slot; stack = c.stack }; way = on };
      is = bind_is (local_value kinds.Int n c.locals)
          (λ x. moved_on (slice_set c.locals n (One (values.Int (int_wrap w32 (x +ℤ amount))))) c.stack) x.0
          (moved_on (slice_set c.locals n slot) c.stack) (read_before b kinds.Int n c.locals x.0 x.1) refl;
      own = set_part b c.locals n old.0 slot old.1 ∙ ap (λ (z : Moved). z.contents.locals) same;
      stack = ap (λ (z : Moved). z.contents.stack) same;
      way = ap (λ (z : Moved). z.way) same;
    }
acts_alike b (branch takes test target) c m e =
    let x = some_is (applied Bool takes test c.stack) (λ x. moved_by (if x.0 then to target else on) (part b c.locals) x.1) m e in
    stays b c (if x.0.0 then to target else on) x.0.1 m _ x.2
    (bind_is (applied Bool takes test c.stack) (λ x. moved_by (if x.0 then to target else on) c.locals x.1) x.0
    (moved_by (if x.0.0 then to target else on) c.locals x.0.1) x.1 refl)
acts_alike b (jump target) c m e = stays b c (to target) c.stack m _ e refl
acts_alike b (select choice targets) c m e =
    let x = some_is (popped kinds.Int c.stack) (λ x. moved_by (to (choice x.0)) (part b c.locals) x.1) m e in
    stays b c (to (choice x.0.0)) x.0.1 m _ x.2
    (bind_is (popped kinds.Int c.stack) (λ x. moved_by (to (choice x.0)) c.locals x.1) x.0 (moved_by (to (choice x.0.0)) c.locals x.0.1) x.1 refl)

-- a division looks at operands alone
pub divides_alike : (r : LocalRow) (b : Bool) (c : Contents Slot) → divides_by_zero r (with_part b c) ≡ divides_by_zero r c
divides_alike (int takes f) b c = refl
divides_alike (long takes f) b c = refl
divides_alike r b c = refl

-- ---- frames

pub synchronized_is : (w : World) (n : ℕ) (info : MethodInfo) → slice_get w.methods n ≡ Some info → is_synchronized_at w n ≡ is_synchronized info
synchronized_is w n info at = ap (λ o. option_map_or is_synchronized o false) at

-- a method that isn't synchronized names all local variables, and one that is all but the monitor
pub plain_locals : (w : World) (n : ℕ) (locals : List Slot) → is_synchronized_at w n ≡ false → own_locals w n locals ≡ locals
plain_locals w n locals e = ap (λ b. part b locals) e

pub guarded_locals : (w : World) (n : ℕ) (locals : List Slot) (slot : Slot) → is_synchronized_at w n ≡ true
    → own_locals w n (locals ++ slot ∷ []) ≡ locals
guarded_locals w n locals slot e = ap (λ b. part b (locals ++ slot ∷ [])) e ∙ last_dropped locals slot
