-- The first frame of a method keeps to the typing.
use Rattle.std.proofs.Common.{◌≡◌, ℕ, zero, suc, ◌+◌, ◌-◌, ◌≤◌, Bool, true, false, List, [], ◌++◌, length, replicate, Option, Some, None, refl, sym, subst, ◌∙◌, arith}
use Rattle.std.specs.Prelude.{get_or, nat_le, slice_get, if◌then◌else◌}
use Rattle.std.proofs.lemmas.Bool.{le-leb}
use Rattle.std.proofs.lemmas.List.{length-append}
use Rattle.items.specs.Options.{◌>>=◌}
use Rattle.items.proofs.Binds.{bind_is}
use Rattle.stack_maps.specs.declared.types.VType.{VType}
use Rattle.stack_maps.specs.declared.types.VType.TheVariants as types
use Rattle.instruction_rows.specs.declared.value.Slot.{Slot}
use Rattle.instruction_rows.specs.declared.value.Value.TheVariants as values
use Rattle.instruction_rows.specs.declared.value.Slot.TheVariants.{One, Second}
use Rattle.instruction_rows.specs.Contents.{Contents, slot_types}
use Rattle.instruction_rows.specs.Soundness.{AreOf, HasKinds}
use Rattle.instruction_rows.proofs.ListLaws.{same_length, append_of}
use Rattle.link_model.specs.declared.members.MethodInfo.{MethodInfo}
use Rattle.link_model.specs.declared.members.MethodCode.{MethodCode}
use Rattle.link_model.specs.World.{World}
use Rattle.link_model.specs.Decoded.{code_at}
use Rattle.verify_types.specs.TypeStates.{TypeState, padded}
use Rattle.verify_types.specs.Environment.{environment_of, environment, first_frame as first_types}
use Rattle.verify_types.specs.Typing.{AreTyped}
use Rattle.state_model.specs.Frames.{Frame}
use Rattle.ref_model.specs.Frames.{first_frame}
use Rattle.frame_soundness.specs.Typed.{IsAt}
use Rattle.frame_soundness.specs.CallLaws.{StandsAtFirst}
use Rattle.frame_soundness.proofs.OwnLocals.{plain_locals, guarded_locals, synchronized_is}

unset : (n : ℕ) → AreOf (replicate n types.Top) (replicate n Second)
unset zero = tt
unset (suc n) = (tt, unset n)

-- the arguments, and after them what is unset
padded_of : (n : ℕ) (ts : List VType) (xs : List Slot) → AreOf ts xs → AreOf (padded n ts) (xs ++ replicate (n - length xs) Second)
padded_of n ts xs of =
    append_of ts (replicate (n - length ts) types.Top) xs (replicate (n - length xs) Second) of
    (subst (λ (k : ℕ). AreOf (replicate (n - length ts) types.Top) (replicate (n - k) Second)) (same_length ts xs of) (unset (n - length ts)))

pub record Begun (w : World) (n : ℕ) (info : MethodInfo) (code : MethodCode) (xs : List Slot) : Type 0 where
  pub frame : Frame
  pub is : first_frame n code xs ≡ Some frame
  pub method : frame.method ≡ n
  pub stands : StandsAtFirst w info frame

if_true : {A : Type 0} (b : Bool) (x y : A) → b ≡ true → (if b then x else y) ≡ x
if_true true x y e = refl
if_true false x y e = absurd cc

same_state : (o : Option TypeState) (a b : TypeState) → o ≡ Some a → o ≡ Some b → a ≡ b
same_state o a b x y = cc

part_fits : (a b n : ℕ) → a + b ≤ n → a ≤ n
part_fits a b n h = omega arith

-- the slots of the arguments have the kinds of the method's first types
pub begun : (w : World) (n : ℕ) (info : MethodInfo) (code : MethodCode) (xs : List Slot) → AreTyped w → slice_get w.methods n ≡ Some info
    → code_at w n ≡ Some code → AreOf (slot_types (first_types w info).locals) xs → Begun w n info code xs
begun w n info code xs typed_world info_is code_is of =
    let env = environment_of w info code (get_or w.resolutions n []) (get_or w.catches n []) in
    let inner : (code_at w n >>= λ c. Some (environment_of w info c (get_or w.resolutions n []) (get_or w.catches n []))) ≡ Some env =
    bind_is (code_at w n) (λ c. Some (environment_of w info c (get_or w.resolutions n []) (get_or w.catches n []))) code (Some env) code_is refl in
    let env_is : environment w n ≡ Some env =
    bind_is (slice_get w.methods n)
    (λ m. code_at w n >>= λ c. Some (environment_of w m c (get_or w.resolutions n []) (get_or w.catches n []))) info (Some env) info_is inner in
    let typed = typed_world n env env_is in
    let start = typed.start in
    let slots : Contents Slot = record { locals = xs ++ replicate (code.max_locals - length xs) Second; stack = [] } in
    let kinds : HasKinds env.first.types slots =
    record { locals = padded_of code.max_locals (slot_types (first_types w info).locals) xs of; stack = tt } in
    let after = start.keeps slots kinds in
    let each = typed.each 0 start.place start.there in
    let same = same_state start.place.state each.0 start.state each.1 start.has in
    let most : length start.state.types.locals ≤ code.max_locals =
    subst (λ (s : TypeState). length s.types.locals ≤ code.max_locals) same each.2.locals in
    let whole : length start.state.types.locals ≡ length xs + length (replicate (code.max_locals - length xs) Second) =
    same_length start.state.types.locals slots.locals after.locals ∙ length-append xs (replicate (code.max_locals - length xs) Second) in
    let few : length xs ≤ code.max_locals =
    part_fits (length xs) (length (replicate (code.max_locals - length xs) Second)) code.max_locals
    (subst (λ (k : ℕ). k ≤ code.max_locals) whole most) in
    let there : Frame = record { method = n; pc = 0; locals = slots.locals; stack = []; room = code.max_stack } in
    let same_flag = synchronized_is w n info info_is in
    let at : IsAt w there = record {
      env = env;
      method = env_is;
      place = start.place;
      there = start.there;
      state = start.state;
      has = start.has;
      room = refl;
    } in
    record {
      frame = there;
      is = if_true (nat_le (length xs) code.max_locals) (Some there) None (le-leb (length xs) code.max_locals few);
      method = refl;
      stands = record {
        plain = λ e. record {
          at = at;
          kinds = record {
            locals = subst (λ (ys : List Slot). AreOf start.state.types.locals ys) (sym (plain_locals w n slots.locals (same_flag ∙ e))) after.locals;
            stack = after.stack;
          };
        };
        guarded = λ o e. record {
          at = record {
            env = env;
            method = env_is;
            place = start.place;
            there = start.there;
            state = start.state;
            has = start.has;
            room = refl;
          };
          kinds = record {
            locals = subst (λ (ys : List Slot). AreOf start.state.types.locals ys)
                (sym (guarded_locals w n slots.locals (One (values.Ref o)) (same_flag ∙ e))) after.locals;
            stack = after.stack;
          };
        };
      };
    }
