-- Calls of methods of an object, by frames that keep to the typing.
use Rattle.std.proofs.Common.{◌≡◌, ℕ, suc, ◌+◌, Bool, true, false, List, [], ◌∷◌, ◌++◌, length, Option, Some, None, Ok, refl, ap, sym, subst, ◌∙◌, arith}
use Rattle.std.specs.Prelude.{map, reverse, slice_get, if◌then◌else◌}
use Rattle.std.proofs.lemmas.List.{append_assoc, length-append, reverse-append}
use Rattle.class_model.specs.declared.access_flags.TheConstants.{ACC_STATIC}
use Rattle.link_rules.specs.Program.{has_flag}
use Rattle.opcodes.specs.declared.op.ValueKind.TheVariants as kinds
use Rattle.stack_maps.specs.declared.types.VType.{VType}
use Rattle.stack_maps.specs.declared.types.VType.TheVariants as types
use Rattle.instruction_rows.specs.declared.value.Slot.{Slot}
use Rattle.instruction_rows.specs.Kinds.{kind_of_type}
use Rattle.instruction_rows.specs.Contents.{is_wide, slot_types}
use Rattle.instruction_rows.specs.TypeEffect.{type_popped}
use Rattle.instruction_rows.specs.Soundness.{IsOf, AreOf}
use Rattle.instruction_rows.proofs.KindLaws.{only_is, holds, is_of}
use Rattle.link_model.specs.declared.members.MethodInfo.{MethodInfo}
use Rattle.link_model.specs.declared.members.MethodCode.{MethodCode}
use Rattle.link_model.specs.declared.sites.ArrayType.{ArrayType}
use Rattle.link_model.specs.World.{World, array_type, class_type}
use Rattle.link_model.specs.Decoded.{code_at}
use Rattle.verify_types.specs.Assignability.{is_object}
use Rattle.verify_types.specs.ClassTypes.{type_of_kind}
use Rattle.verify_types.specs.Environment.{is_constructor, receiver_type, first_frame as first_types}
use Rattle.verify_types.specs.Calls.{argument_types}
use Rattle.verify_types.specs.Operands.{all_wanted}
use Rattle.verify_types.specs.Typing.{AreTyped}
use Rattle.state_model.specs.Frames.{Frame}
use Rattle.ref_model.specs.Kinds.{argument_slots}
use Rattle.ref_model.specs.Fetch.{Named}
use Rattle.ref_model.specs.Frames.{first_frame, callee}
use Rattle.frame_soundness.specs.CallLaws.{Begins, StandsAtFirst}
use Rattle.frame_soundness.proofs.Beginnings.{begun}
use Rattle.frame_soundness.proofs.Exceptions.{class_kind}
use Rattle.frame_soundness.proofs.Arguments.{stacked, all_on_top, reversed_of, in_order}
use Rattle.frame_soundness.proofs.CallLaws.{count_is, callee_is, left_is}

-- ---- the receiver

pub class_narrow : (w : World) (n : ℕ) → is_wide (class_type w n) ≡ false
class_narrow w n = by (array_type w n) refl
  where
    by : (o : Option ArrayType) → array_type w n ≡ o → is_wide (class_type w n) ≡ false
    by None e = rw e refl
    by (Some a) e = rw e refl

pub record IsReceiver (t : VType) : Type 0 where
  pub kind : kind_of_type t ≡ Some kinds.Reference
  pub narrow : is_wide t ≡ false

pub receiver_is : (w : World) (m : MethodInfo) → IsReceiver (receiver_type w m)
receiver_is w m = by (is_constructor m) (is_object w m.class)
  where
    by : (a b : Bool) → IsReceiver (if a then (if b then class_type w m.class else types.UninitThis) else class_type w m.class)
    by true true = record { kind = class_kind w m.class; narrow = class_narrow w m.class }
    by true false = record { kind = refl; narrow = refl }
    by false b = record { kind = class_kind w m.class; narrow = class_narrow w m.class }

-- the types of the first local variables of a method of an object
pub instance_locals : (w : World) (info : MethodInfo) → has_flag ACC_STATIC info.flags ≡ false
    → slot_types (first_types w info).locals ≡ receiver_type w info ∷ slot_types (map (type_of_kind w) info.signature.args)
instance_locals w info not_static =
    ap (λ b. slot_types ((if b then [] else receiver_type w info ∷ []) ++ map (type_of_kind w) info.signature.args)) not_static
    ∙ ap (λ b. (if b then receiver_type w info ∷ types.Top ∷ [] else receiver_type w info ∷ [])
    ++ slot_types (map (type_of_kind w) info.signature.args)) (receiver_is w info).narrow

-- ---- the reference below the arguments

record Below (rest : List VType) (left : List Slot) : Type 0 where
  pub slot : Slot
  pub under : List Slot
  pub is : left ≡ slot ∷ under
  pub of : (t : VType) → kind_of_type t ≡ Some kinds.Reference → IsOf t slot
  pub below : AreOf rest under

below : (rest : List VType) (x : VType × List VType) (left : List Slot) → type_popped kinds.Reference rest ≡ Ok x → AreOf rest left
    → Below x.1 left
below [] x left e of = absurd cc
below (t ∷ ts) x [] e of = absurd of
below (t ∷ ts) x (slot ∷ under) e of =
    let only = only_is kinds.Reference t (t, ts) x e in
    record {
      slot = slot;
      under = under;
      is = refl;
      of = λ u kind. is_of kinds.Reference u slot kind (holds kinds.Reference t slot only.0 of.0);
      below = subst (λ (y : VType × List VType). AreOf y.1 under) only.1 of.1;
    }

one_more : (n : ℕ) → suc n ≡ n + 1
one_more n = omega arith

same_frame : (o : Option Frame) (a b : Frame) → o ≡ Some a → o ≡ Some b → a ≡ b
same_frame o a b x y = cc

-- ---- the callee begins

pub begins : (w : World) (m : Named) (code : MethodCode) (ts rest : List VType) (x : VType × List VType) (xs : List Slot) (g : Frame)
    → AreTyped w → slice_get w.methods m.number ≡ Some m.method → code_at w m.number ≡ Some code
    → has_flag ACC_STATIC m.method.flags ≡ false → AreOf ts xs → all_wanted w (argument_types w m.method.signature) ts ≡ Ok rest
    → type_popped kinds.Reference rest ≡ Ok x → callee m.number code (suc (argument_slots m.method.signature)) xs ≡ Some g
    → Begins w m x.1 xs g
begins w m code ts rest x xs g typed at code_is not_static of taken popped_is made =
    let args = m.method.signature.args in
    let tops = all_on_top w (argument_types w m.method.signature) ts rest xs taken of in
    let b = below rest x tops.left popped_is tops.below in
    let all = tops.tops ++ b.slot ∷ [] in
    let lies : xs ≡ all ++ b.under =
    tops.is ∙ ap (λ ys. tops.tops ++ ys) b.is ∙ sym (append_assoc tops.tops (b.slot ∷ []) b.under) in
    let count : suc (argument_slots m.method.signature) ≡ length all =
    one_more (argument_slots m.method.signature) ∙ ap (λ n. n + 1) (count_is w args tops.tops tops.of)
    ∙ sym (length-append tops.tops (b.slot ∷ [])) in
    let arguments : AreOf (slot_types (map (type_of_kind w) args)) (reverse tops.tops) =
    subst (λ (us : List VType). AreOf us (reverse tops.tops)) (in_order (map (type_of_kind w) args))
    (reversed_of (stacked (argument_types w m.method.signature)) tops.tops tops.of) in
    let slots : AreOf (slot_types (first_types w m.method).locals) (b.slot ∷ reverse tops.tops) =
    subst (λ (us : List VType). AreOf us (b.slot ∷ reverse tops.tops)) (sym (instance_locals w m.method not_static))
    (b.of (receiver_type w m.method) (receiver_is w m.method).kind, arguments) in
    let begun_at = begun w m.number m.method code (b.slot ∷ reverse tops.tops) typed at code_is slots in
    let first : first_frame m.number code (reverse all) ≡ Some begun_at.frame =
    ap (first_frame m.number code) (reverse-append tops.tops (b.slot ∷ [])) ∙ begun_at.is in
    let here = callee_is m.number code (suc (argument_slots m.method.signature)) xs all b.under begun_at.frame lies count first in
    let same = same_frame (callee m.number code (suc (argument_slots m.method.signature)) xs) begun_at.frame g here made in
    record {
      stands = subst (StandsAtFirst w m.method) same begun_at.stands;
      method = ap (λ (f : Frame). f.method) (sym same) ∙ begun_at.method;
      left = subst (λ (ys : List Slot). AreOf x.1 ys)
          (sym (left_is (suc (argument_slots m.method.signature)) xs all b.under lies count)) b.below;
    }
