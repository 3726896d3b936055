-- Kinds of types, of slots and of values.
use Rattle.std.proofs.Common.{◌≡◌, true, false, List, Option, Some, None, Ok, refl, subst, sym, inl, inr, [], ◌∷◌}
use Rattle.std.specs.List.{AllZip}
use Rattle.opcodes.specs.declared.op.ValueKind.{ValueKind}
use Rattle.opcodes.specs.declared.op.ValueKind.TheVariants as kinds
use Rattle.stack_maps.specs.declared.types.VType.{VType}
use Rattle.stack_maps.specs.declared.types.VType.TheVariants as types
use Rattle.instruction_rows.specs.declared.value.Value.{Value}
use Rattle.instruction_rows.specs.declared.value.Value.TheVariants as values
use Rattle.instruction_rows.specs.declared.value.Slot.{Slot}
use Rattle.instruction_rows.specs.declared.value.Slot.TheVariants as slots
use Rattle.instruction_rows.specs.Kinds.{Of, kind_of, value, kind_of_type, is_kind}
use Rattle.instruction_rows.specs.Contents.{is_wide, types_of, slots_of}
use Rattle.instruction_rows.specs.SlotEffect.{pushed}
use Rattle.instruction_rows.specs.TypeEffect.{only_of, type_pushed}
use Rattle.instruction_rows.specs.Soundness.{Holds, IsOfKind, IsOf, AreOf, KeepsKind}
use Rattle.instruction_rows.proofs.Steps.{passed}

pub kind_is : (k : ValueKind) (o : Option ValueKind) → is_kind k o ≡ true → o ≡ Some k
kind_is kinds.Int (Some kinds.Int) e = refl
kind_is kinds.Long (Some kinds.Long) e = refl
kind_is kinds.Reference (Some kinds.Reference) e = refl
kind_is k o e = absurd cc

pub only_is : {A : Type 0} (k : ValueKind) (t : VType) (x y : A) → only_of k t x ≡ Ok y → (kind_of_type t ≡ Some k) × (x ≡ y)
only_is k t x y e = let both = passed (is_kind k (kind_of_type t)) x y _ e in (kind_is k (kind_of_type t) both.0, both.1)

-- a slot of a type of this kind holds a value of it, and the other way round
pub holds : (k : ValueKind) (t : VType) (slot : Slot) → kind_of_type t ≡ Some k → IsOf t slot → Holds k slot
holds k t slot e of = subst (λ (o : Option ValueKind). IsOfKind o slot) e of

pub is_of : (k : ValueKind) (t : VType) (slot : Slot) → kind_of_type t ≡ Some k → Holds k slot → IsOf t slot
is_of k t slot e h = subst (λ (o : Option ValueKind). IsOfKind o slot) (sym e) h

pub kind_of_value : (k : ValueKind) (x : Of k) → kind_of (value k x) ≡ k
kind_of_value kinds.Int n = refl
kind_of_value kinds.Long n = refl
kind_of_value kinds.Reference None = refl
kind_of_value kinds.Reference (Some object) = refl

-- types of ints and references take one slot, and the one of longs is Long
int_narrow : (t : VType) → kind_of_type t ≡ Some kinds.Int → is_wide t ≡ false
int_narrow types.Long e = absurd cc
int_narrow types.Double e = absurd cc
int_narrow t e = refl

reference_narrow : (t : VType) → kind_of_type t ≡ Some kinds.Reference → is_wide t ≡ false
reference_narrow types.Long e = absurd cc
reference_narrow types.Double e = absurd cc
reference_narrow t e = refl

pub long_is : (t : VType) → kind_of_type t ≡ Some kinds.Long → t ≡ types.Long
long_is types.Long e = refl
long_is t e = absurd cc

-- a value pushed has the type pushed
pub pushed_kinds : (t : VType) (v : Value) (ts : List VType) (xs : List Slot) → kind_of_type t ≡ Some (kind_of v) → AreOf ts xs → AreOf (type_pushed t ts) (pushed v xs)
pushed_kinds t (values.Int n) ts xs e of = rw (int_narrow t e) (is_of kinds.Int t (slots.One (values.Int n)) e (record { value = n; is = refl }), of)
pushed_kinds t (values.Long n) ts xs e of = rw (long_is t e) (tt, (record { value = n; is = refl }, of))
pushed_kinds t values.Null ts xs e of = rw (reference_narrow t e) (is_of kinds.Reference t (slots.One values.Null) e (record { value = None; is = refl }), of)
pushed_kinds t (values.Ref object) ts xs e of = rw (reference_narrow t e) (is_of kinds.Reference t (slots.One (values.Ref object)) e (record { value = Some object; is = refl }), of)

-- the same in local variables
pub slots_kinds : (t : VType) (v : Value) → kind_of_type t ≡ Some (kind_of v) → AreOf (types_of t) (slots_of v)
slots_kinds t (values.Int n) e = rw (int_narrow t e) (is_of kinds.Int t (slots.One (values.Int n)) e (record { value = n; is = refl }), tt)
slots_kinds t (values.Long n) e = rw (long_is t e) (record { value = n; is = refl }, (tt, tt))
slots_kinds t values.Null e = rw (reference_narrow t e) (is_of kinds.Reference t (slots.One values.Null) e (record { value = None; is = refl }), tt)
slots_kinds t (values.Ref object) e = rw (reference_narrow t e) (is_of kinds.Reference t (slots.One (values.Ref object)) e (record { value = Some object; is = refl }), tt)

-- slots of types are slots of types that keep their kinds
pub is_of_kept : (a b : VType) (slot : Slot) → KeepsKind a b → IsOf a slot → IsOf b slot
is_of_kept a b slot (inl none) of = rw none tt
is_of_kept a b slot (inr same) of = subst (λ (o : Option ValueKind). IsOfKind o slot) same of

pub are_of_kept : (ts us : List VType) (xs : List Slot) → AllZip KeepsKind ts us → AreOf ts xs → AreOf us xs
are_of_kept [] [] xs keeps of = of
are_of_kept [] (u ∷ us) xs keeps of = absurd keeps
are_of_kept (t ∷ ts) [] xs keeps of = absurd keeps
are_of_kept (t ∷ ts) (u ∷ us) [] keeps of = absurd of
are_of_kept (t ∷ ts) (u ∷ us) (x ∷ xs) keeps of = (is_of_kept t u x keeps.0 of.0, are_of_kept ts us xs keeps.1 of.1)
