-- Frames that are pushed are those of the opening.
use Rattle.std.proofs.Common.{◌≡◌, ℕ, zero, suc, ◌+◌, ◌-◌, ◌<◌, Bool, true, false, List, [], ◌∷◌, ◌++◌, drop, length, get_or, Option, Some, None, IsSome, refl, sym, subst, ap, ◌∙◌, arith, drop-cons}
use Rattle.std.specs.Prelude.{nat_le, replicate, slice_set, if◌then◌else◌}
use Rattle.std.proofs.lemmas.Bool.Decides.{nat_tests}
use Rattle.std.proofs.lemmas.Grind.{common_steps}
use Rattle.std.proofs.lemmas.List.{length-replicate, length-set}
use Rattle.items.specs.Options.{◌>>=◌}
use Rattle.items.proofs.Binds.{bind_is}
use Rattle.instruction_rows.specs.declared.value.Value.TheVariants as values
use Rattle.instruction_rows.specs.declared.value.Slot.{Slot}
use Rattle.instruction_rows.specs.declared.value.Slot.TheVariants.{One, Second}
use Rattle.link_model.specs.declared.members.MethodCode.{MethodCode}
use Rattle.link_model.specs.World.{World}
use Rattle.link_model.specs.Decoded.{code_at}
use Rattle.state_model.specs.Frames.{Frame}
use Rattle.frames.specs.Frames.{entered, top_locals, top_stack, with_local, with_stack}
use Rattle.ref_model.specs.Frames.{first_frame}
use Rattle.ref_model.specs.Opening.{frame_of, frames_of, guarded_by, initializers}
use Rattle.startup.specs.FirstFrames.{count_with, holding, HasFrame, IsFirst, frames_with, main_frame}

-- the frame of a method with these local variables
begun : ℕ → MethodCode → List Slot → Frame
begun method code locals = record { method = method; pc = 0; locals = locals; stack = []; room = code.max_stack }

if_true : {A : Type 0} (b : Bool) (x y : A) → b ≡ true → (if b then x else y) ≡ x
if_true true x y e = refl
if_true false x y e = absurd cc

frame_is : (w : World) (n : ℕ) (code : MethodCode) (slots : List Slot) → code_at w n ≡ Some code → nat_le (length slots) code.max_locals ≡ true
    → frame_of w n slots ≡ Some (begun n code (slots ++ replicate (code.max_locals - length slots) Second))
unfolding begun
frame_is w n code slots e few =
    bind_is (code_at w n) (λ c. first_frame n c slots) code (Some (begun n code (slots ++ replicate (code.max_locals - length slots) Second))) e
    (if_true (nat_le (length slots) code.max_locals) (Some (begun n code (slots ++ replicate (code.max_locals - length slots) Second))) None few)

same_stack : (frames : List Frame) → with_stack (top_stack frames) frames ≡ frames
same_stack [] = refl
same_stack (f ∷ below) = refl

pub frame_pushed : (w : World) (n : ℕ) (code : MethodCode) (old new : List Frame) → code_at w n ≡ Some code
    → new ≡ entered n code.max_locals code.max_stack 0 old → HasFrame w n old new
unfolding begun
frame_pushed w n code old new e made = record {
  frame = begun n code ([] ++ replicate (code.max_locals - 0) Second);
  is = frame_is w n code [] e (grind (arith, nat_tests));
  all = made ∙ ap (λ below. begun n code ([] ++ replicate (code.max_locals - 0) Second) ∷ below) (same_stack old);
}

-- ---- main

set_first : (m : ℕ) (x : Slot) → 0 < m → slice_set ([] ++ replicate (m - 0) Second) 0 x ≡ (x ∷ []) ++ replicate (m - 1) Second
set_first zero x h = absurd (omega arith)
set_first (suc k) x h =
    let all : suc k - 0 ≡ suc k = omega arith in
    let rest : suc k - 1 ≡ k = omega arith in
    ap (λ n. slice_set ([] ++ replicate n Second) 0 x) all ∙ ap (λ n. x ∷ replicate n Second) (sym rest)

pub main_locals : (n locals : ℕ) (code : MethodCode) (frames : List Frame) → frames ≡ entered n locals code.max_stack 0 []
    → length (top_locals frames) ≡ locals
main_locals n locals code frames e =
    ap (λ fs. length (top_locals fs)) e ∙ long locals
  where
    long : (m : ℕ) → length ([] ++ replicate (m - 0) Second) ≡ m
    long m = simp length-replicate (omega arith)

main_without : (w : World) (n words : ℕ) (code : MethodCode) (frames new : List Frame) → code_at w n ≡ Some code → 0 < code.max_locals
    → frames ≡ entered n code.max_locals code.max_stack 0 [] → new ≡ with_local 0 (One (values.Ref words)) frames → IsFirst w n words None new
unfolding begun
main_without w n words code frames new e some made set =
    let x = One (values.Ref words) in
    record {
      frame = begun n code ((x ∷ []) ++ replicate (code.max_locals - 1) Second);
      is = frame_is w n code (x ∷ []) e (grind (arith, nat_tests));
      all = set ∙ ap (with_local 0 x) made ∙ ap (λ locals. begun n code locals ∷ []) (set_first code.max_locals x some);
    }

-- the last local variable is set
set_tail : (k : ℕ) (y : Slot) → slice_set (replicate (k + 1) Second) k y ≡ replicate k Second ++ y ∷ []
set_tail zero y = refl
set_tail (suc k) y =
    let more : suc k + 1 ≡ suc (k + 1) = omega arith in
    ap (λ n. slice_set (replicate n Second) (suc k) y) more ∙ ap (λ slots. Second ∷ slots) (set_tail k y)

set_last : (xs : List Slot) (k m : ℕ) (y : Slot) → length xs + k ≡ m → slice_set (xs ++ replicate (k + 1) Second) m y ≡ (xs ++ replicate k Second) ++ y ∷ []
set_last [] k m y e = subst (λ i. slice_set (replicate (k + 1) Second) i y ≡ replicate k Second ++ y ∷ []) (omega (arith, e)) (set_tail k y)
set_last (x ∷ xs) k zero y e = absurd (omega (arith, e))
set_last (x ∷ xs) k (suc m) y e = ap (λ slots. x ∷ slots) (set_last xs k m y (omega (arith, e)))

-- the local variables of main where the last holds the monitor
main_with : (w : World) (n words o : ℕ) (code : MethodCode) (frames new : List Frame) → code_at w n ≡ Some code → 0 < code.max_locals
    → frames ≡ entered n (code.max_locals + 1) code.max_stack 0 [] → new ≡ with_local code.max_locals (One (values.Ref o)) (with_local 0 (One (values.Ref words)) frames)
    → IsFirst w n words (Some o) new
unfolding begun
main_with w n words o code frames new e some made set =
    let x = One (values.Ref words) in
    let y = One (values.Ref o) in
    let k = code.max_locals - 1 in
    let rest : code.max_locals + 1 - 1 ≡ k + 1 = omega arith in
    let long : length (x ∷ []) + k ≡ code.max_locals = omega arith in
    let locals : slice_set ([] ++ replicate (code.max_locals + 1 - 0) Second) 0 x ≡ (x ∷ []) ++ replicate (k + 1) Second =
    set_first (code.max_locals + 1) x (omega arith) ∙ ap (λ m. (x ∷ []) ++ replicate m Second) rest in
    record {
      frame = begun n code ((x ∷ []) ++ replicate k Second);
      is = frame_is w n code (x ∷ []) e (grind (arith, nat_tests));
      all = set ∙ ap (λ fs. with_local code.max_locals y (with_local 0 x fs)) made
          ∙ ap (λ slots. begun n code (slice_set slots code.max_locals y) ∷ []) locals
          ∙ ap (λ slots. begun n code slots ∷ []) (set_last (x ∷ []) k code.max_locals y long);
    }

pub main_pushed : (w : World) (n words : ℕ) (monitor : Option ℕ) (code : MethodCode) (frames new : List Frame) → code_at w n ≡ Some code → 0 < code.max_locals
    → frames ≡ entered n (count_with code.max_locals monitor) code.max_stack 0 [] → new ≡ holding code.max_locals monitor (with_local 0 (One (values.Ref words)) frames)
    → IsFirst w n words monitor new
main_pushed w n words None code frames new e some made set = main_without w n words code frames new e some made set
main_pushed w n words (Some o) code frames new e some made set = main_with w n words o code frames new e some made set

-- there is a place for the monitor
pub last_inside : (locals : ℕ) (monitor : Option ℕ) (frames : List Frame) (slot : Slot) → length (top_locals frames) ≡ count_with locals monitor → IsSome monitor
    → locals < length (top_locals (with_local 0 slot frames))
last_inside locals None frames slot long some = absurd cc
last_inside locals (Some o) frames slot long some = let same = set_long frames slot in omega (arith, long, same)
  where
    set_long : (fs : List Frame) (x : Slot) → length (top_locals (with_local 0 x fs)) ≡ length (top_locals fs)
    set_long [] x = refl
    set_long (f ∷ below) x = length-set f.locals 0 x

-- ---- the class initializers

pub frames_more : (w : World) (methods : List ℕ) (i j x : ℕ) (below frames new : List Frame) → i ≡ suc j → j < length methods
    → x ≡ get_or methods j 0 → frames_of w (drop i methods) below ≡ Some frames → HasFrame w x frames new
    → frames_of w (drop j methods) below ≡ Some new
frames_more w methods i j x below frames new e inside is so h =
    let parts : drop j methods ≡ x ∷ drop i methods =
    drop-cons methods j 0 inside ∙ ap (λ y. y ∷ drop (suc j) methods) (sym is) ∙ ap (λ k. x ∷ drop k methods) (sym e) in
    let made : Option (List Frame) = Some (h.frame ∷ frames) in
    ap (λ ns. frames_of w ns below) parts
    ∙ bind_is (frame_of w x []) (λ f. frames_of w (drop i methods) below >>= λ fs. Some (f ∷ fs)) h.frame made h.is
    (bind_is (frames_of w (drop i methods) below) (λ fs. Some (h.frame ∷ fs)) frames made so refl)
    ∙ ap Some (sym h.all)

pub frames_none : (w : World) (methods : List ℕ) (below : List Frame) (n : ℕ) → length methods ≡ n → frames_of w (drop n methods) below ≡ Some below
frames_none w methods below n e = ap (λ ns. frames_of w ns below) (all methods n e)
  where
    all : (xs : List ℕ) (k : ℕ) → length xs ≡ k → drop k xs ≡ []
    all xs k e = grind (arith, common_steps)

pub frames_all : (w : World) (n words : ℕ) (monitor : Option ℕ) (first frames : List Frame) → IsFirst w n words monitor first
    → frames_of w (initializers w.program) first ≡ Some frames → frames_with w n words monitor ≡ Some frames
frames_all w n words monitor first frames h so =
    bind_is (main_frame w n words) (λ f. frames_of w (initializers w.program) (guarded_by monitor f ∷ [])) h.frame (Some frames) h.is
    (ap (frames_of w (initializers w.program)) (sym h.all) ∙ so)
