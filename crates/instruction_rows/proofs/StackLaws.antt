-- Operands are there where the typing takes them.
use Rattle.std.proofs.Common.{◌≡◌, List, [], ◌∷◌, Some, Ok, refl, subst, ap, sym}
use Rattle.opcodes.specs.declared.op.ValueKind.{ValueKind}
use Rattle.opcodes.specs.declared.op.ValueKind.TheVariants as kinds
use Rattle.stack_maps.specs.declared.types.VType.{VType}
use Rattle.stack_maps.specs.declared.types.VType.TheVariants as types
use Rattle.instruction_rows.specs.declared.value.Slot.{Slot}
use Rattle.instruction_rows.specs.Kinds.{Of, Function, kind_of_type}
use Rattle.instruction_rows.specs.SlotEffect.{popped, applied}
use Rattle.instruction_rows.specs.TypeEffect.{only_of, type_popped, types_popped}
use Rattle.instruction_rows.specs.Soundness.{Holds, IsOf, AreOf}
use Rattle.instruction_rows.proofs.Steps.{bind_is, ok_is}
use Rattle.instruction_rows.proofs.KindLaws.{only_is, holds}

-- a value taken from the top of slots, where a type is taken from the top of types
pub record Popped (k : ValueKind) (x : VType × List VType) (xs : List Slot) : Type 0 where
  pub value : Of k
  pub left : List Slot
  pub is : popped k xs ≡ Some (value, left)
  pub kind : kind_of_type x.0 ≡ Some k
  pub of : AreOf x.1 left

long_popped : (ts : List VType) (x : VType × List VType) → type_popped kinds.Long ts ≡ Ok x → ts ≡ types.Top ∷ types.Long ∷ x.1
long_popped [] x e = absurd cc
long_popped (types.Top ∷ types.Long ∷ rest) x e = let same : (types.Long, rest) ≡ x = cc in ap (λ (y : VType × List VType). types.Top ∷ types.Long ∷ y.1) same
long_popped ts x e = absurd cc

long_type : (ts : List VType) (x : VType × List VType) → type_popped kinds.Long ts ≡ Ok x → x.0 ≡ types.Long
long_type [] x e = absurd cc
long_type (types.Top ∷ types.Long ∷ rest) x e = let same : (types.Long, rest) ≡ x = cc in ap (λ (y : VType × List VType). y.0) (sym same)
long_type ts x e = absurd cc

-- the value in the topmost slot
top_popped : (k : ValueKind) (t : VType) (rest : List VType) (x : VType × List VType) (slot : Slot) (left : List Slot)
    → ((h : Holds k slot) → popped k (slot ∷ left) ≡ Some (h.value, left)) → only_of k t (t, rest) ≡ Ok x → IsOf t slot → AreOf rest left → Popped k x (slot ∷ left)
top_popped k t rest x slot left pops e here of =
    let only = only_is k t (t, rest) x e in
    let h = holds k t slot only.0 here in
    record {
      value = h.value;
      left = left;
      is = pops h;
      kind = subst (λ (y : VType × List VType). kind_of_type y.0 ≡ Some k) only.1 only.0;
      of = subst (λ (y : VType × List VType). AreOf y.1 left) only.1 of;
    }

pub popped_of : (k : ValueKind) (ts : List VType) (x : VType × List VType) (xs : List Slot) → type_popped k ts ≡ Ok x → AreOf ts xs → Popped k x xs
popped_of k [] x xs e of = absurd cc
popped_of k (t ∷ ts) x [] e of = absurd of
popped_of kinds.Int (t ∷ ts) x (slot ∷ xs) e of = top_popped kinds.Int t ts x slot xs (λ h. rw h.is refl) e of.0 of.1
popped_of kinds.Reference (t ∷ ts) x (slot ∷ xs) e of = top_popped kinds.Reference t ts x slot xs (λ h. rw h.is refl) e of.0 of.1
popped_of kinds.Long (t ∷ ts) x (slot ∷ xs) e of = long_of x (slot ∷ xs) (long_type (t ∷ ts) x e) (subst (λ (us : List VType). AreOf us (slot ∷ xs)) (long_popped (t ∷ ts) x e) of)
  where
    long_of : (x : VType × List VType) (xs : List Slot) → x.0 ≡ types.Long → AreOf (types.Top ∷ types.Long ∷ x.1) xs → Popped kinds.Long x xs
    long_of x [] is of = absurd of
    long_of x (upper ∷ []) is of = absurd of.1
    long_of x (upper ∷ slot ∷ left) is of = record { value = of.1.0.value; left = left; is = rw (of.1.0.is) refl; kind = rw is refl; of = of.1.1 }

-- a function applied to the slots on top, where its types are on top
pub record Applied (R : Type 0) (takes : List ValueKind) (f : Function takes R) (xs : List Slot) (rest : List VType) : Type 0 where
  pub result : R
  pub left : List Slot
  pub is : applied R takes f xs ≡ Some (result, left)
  pub of : AreOf rest left

pub applied_of : (R : Type 0) (takes : List ValueKind) (f : Function takes R) (ts rest : List VType) (xs : List Slot) → types_popped takes ts ≡ Ok rest → AreOf ts xs → Applied R takes f xs rest
applied_of R [] f ts rest xs e of = let same : ts ≡ rest = cc in record { result = f; left = xs; is = refl; of = subst (λ (us : List VType). AreOf us xs) same of }
applied_of R (k ∷ ks) f ts rest xs e of =
    let first = ok_is (type_popped k ts) (λ x. types_popped ks x.1) rest e in
    let top = popped_of k ts first.0 xs first.1 of in
    let more = applied_of R ks (f top.value) first.0.1 rest top.left first.2 top.of in
    record { result = more.result; left = more.left; is = bind_is (popped k xs) (λ x. applied R ks (f x.0) x.1) (top.value, top.left) (Some (more.result, more.left)) top.is more.is; of = more.of }
