-- Static calls of frames that keep to the typing.
use Rattle.std.proofs.Common.{◌≡◌, ℕ, ◌+◌, ◌≤◌, Bool, true, false, List, [], ◌∷◌, ◌++◌, length, take, drop, Option, Some, None, Ok, refl, ap, sym, subst, ◌∙◌, arith}
use Rattle.std.specs.Prelude.{codes, is_none, map, not, reverse, nat_le, nat_lt, slice_get, sum_by, ◌&&◌, ◌||◌, if◌then◌else◌}
use Rattle.std.specs.Option.{option_map, option_map_or}
use Rattle.std.proofs.lemmas.Bool.{le-leb}
use Rattle.std.proofs.lemmas.List.{length-append, length-reverse}
use Rattle.std.proofs.Math.Seq.{take-append_seam, drop-append_seam}
use Rattle.class_model.specs.declared.access_flags.TheConstants.{ACC_STATIC}
use Rattle.class_grammar.specs.Text.{same_text}
use Rattle.class_grammar.specs.Names.{is_initializer as has_initializer_name}
use Rattle.descriptors.specs.declared.kind.Kind.{Kind as FieldType}
use Rattle.descriptors.specs.Descriptors.{slots}
use Rattle.items.specs.Options.{◌>>=◌}
use Rattle.items.proofs.Binds.{some_is, bind_is}
use Rattle.link_rules.specs.Program.{has_flag}
use Rattle.stack_maps.specs.declared.types.VType.{VType}
use Rattle.instruction_rows.specs.declared.row_why.RowWhy.TheVariants as whys
use Rattle.instruction_rows.specs.declared.value.Slot.{Slot}
use Rattle.instruction_rows.specs.Results.{◌then◌}
use Rattle.instruction_rows.specs.Contents.{slot_types}
use Rattle.instruction_rows.specs.Rows.{invoke, static, row_goes_on}
use Rattle.instruction_rows.specs.TypeEffect.{type_pushed}
use Rattle.instruction_rows.specs.Soundness.{AreOf}
use Rattle.instruction_rows.proofs.ListLaws.{same_length}
use Rattle.instruction_rows.proofs.Steps.{ok_is, found, passed}
use Rattle.link_model.specs.declared.members.MethodInfo.{MethodInfo}
use Rattle.link_model.specs.declared.members.MethodCode.{MethodCode}
use Rattle.link_model.specs.declared.sites.Site.{Site}
use Rattle.link_model.specs.declared.sites.Site.TheVariants as sites
use Rattle.link_model.specs.Initializers.{is_of_initializer}
use Rattle.link_model.specs.World.{World}
use Rattle.link_model.specs.Decoded.{code_at}
use Rattle.verify_types.specs.ClassTypes.{type_of_kind}
use Rattle.verify_types.specs.Operands.{all_wanted}
use Rattle.verify_types.specs.Objects.{named_class}
use Rattle.verify_types.specs.TypeStates.{TypeState, with_stack}
use Rattle.verify_types.specs.Environment.{Instruction, Environment, receiver_type, first_frame as first_types}
use Rattle.verify_types.specs.Calls.{method_of, argument_types, arguments_taken, result_pushed, result_given, static_called as static_state}
use Rattle.verify_types.specs.Effects.{row_of, row_state, state_after}
use Rattle.verify_types.specs.Typing.{AreTyped}
use Rattle.state_model.specs.Frames.{Frame}
use Rattle.ref_model.specs.Kinds.{argument_slots}
use Rattle.lib_table.specs.declared.native.Native.{Native}
use Rattle.ref_model.specs.Members.{native_at, is_initializer, is_synchronized, is_hold}
use Rattle.ref_model.specs.Fetch.{Named, named_method, method_of as number_of}
use Rattle.ref_model.specs.Frames.{first_frame, callee, caller}
use Rattle.ref_model.specs.LocalRows.{most_frames, has_local_call, frames_called, static_called, row}
use Rattle.frame_soundness.specs.CallLaws.{StandsAtFirst}
use Rattle.frame_soundness.specs.Typed.{own_locals, Waits, IsUnder, AreUnder, Typed, given_back, back_of, initializes}
use Rattle.frame_soundness.specs.LocalLaws.{Goes}
use Rattle.frame_soundness.proofs.FetchLaws.{parts, fine}
use Rattle.frame_soundness.proofs.Beginnings.{begun}
use Rattle.frame_soundness.proofs.LocalRowLaws.{row_is}
use Rattle.frame_soundness.proofs.ReturnLaws.{back_is}
use Rattle.frame_soundness.proofs.Arguments.{stacked, all_on_top, reversed_of, in_order, widths}

if_true : {A : Type 0} (b : Bool) (x y : A) → b ≡ true → (if b then x else y) ≡ x
if_true true x y e = refl
if_true false x y e = absurd cc

-- ---- the method that is named

pub record IsNamed (w : World) (info : MethodInfo) (m : Named) : Type 0 where
  pub info_is : info ≡ m.method
  pub at : slice_get w.methods m.number ≡ Some m.method

inside : (a b : Named) → ◌≡◌ {A = Option Named} (Some a) (Some b) → a ≡ b
inside a b same = cc

pub is_named : (w : World) (site : Site) (info : MethodInfo) (m : Named)
    → (number_of site >>= λ n. slice_get w.methods n >>= λ x. Some (record { number = n; method = x })) ≡ Some m
    → method_of w site ≡ Ok info → IsNamed w info m
is_named w (sites.Method n) info m named e =
    let x = some_is (slice_get w.methods n) (λ x. Some (record { number = n; method = x })) m named in
    let same = inside (record { number = n; method = x.0 }) m x.2 in
    let here : slice_get w.methods n ≡ Some info = found (slice_get w.methods n) info whys.Kind e in
    let first : info ≡ x.0 = one (slice_get w.methods n) info x.0 here x.1 in
    record {
      info_is = first ∙ ap (λ (y : Named). y.method) same;
      at = subst (λ (y : Named). slice_get w.methods y.number ≡ Some y.method) same x.1;
    }
  where
    one : (o : Option MethodInfo) (a b : MethodInfo) → o ≡ Some a → o ≡ Some b → a ≡ b
    one o a b x y = cc
is_named w sites.Plain info m named e = absurd cc
is_named w (sites.Field n) info m named e = absurd cc
is_named w (sites.Class n) info m named e = absurd cc
is_named w (sites.Value v) info m named e = absurd cc

-- ---- what the typing says of the call

pub record Called (w : World) (s after : TypeState) (m : Named) : Type 0 where
  pub rest : List VType
  pub taken : all_wanted w (argument_types w m.method.signature) s.types.stack ≡ Ok rest
  pub is : with_stack s (result_pushed w m.method rest) ≡ after
  pub ordinary : not (has_initializer_name m.method.name) ≡ true
  pub at : slice_get w.methods m.number ≡ Some m.method

static_types : (w : World) (s after : TypeState) (info : MethodInfo) (m : Named) → IsNamed w info m → static_state w info s ≡ Ok after
    → Called w s after m
static_types w s after info m named e =
    let here : static_state w m.method s ≡ Ok after = subst (λ (x : MethodInfo). static_state w x s ≡ Ok after) named.info_is e in
    let parts = ok_is (arguments_taken w m.method s.types.stack) (λ rest. result_given w m.method s rest) after here in
    let given = passed (not (has_initializer_name m.method.name)) (with_stack s (result_pushed w m.method parts.0)) after whys.Init parts.2 in
    record { rest = parts.0; taken = parts.1; is = given.1; ordinary = given.0; at = named.at }

pub called_types : (w : World) (env : Environment) (i : Instruction) (s after : TypeState) (index : ℕ) (m : Named) → w ≡ env.world
    → row_of i ≡ invoke static index → named_method w i.resolution ≡ Some m → state_after env i s ≡ Ok after → Called w s after m
called_types w env i s after index m world known named e =
    let here : row_state env i.instr.pc i.resolution (invoke static index) s ≡ Ok after =
    ap (λ x. row_state env i.instr.pc i.resolution x s) (sym known) ∙ e in
    let there : (method_of w i.resolution.site then λ x. named_class i.resolution then λ class. static_state w x s) ≡ Ok after =
    subst (λ (v : World). (method_of v i.resolution.site then λ x. named_class i.resolution then λ class. static_state v x s) ≡ Ok after)
    (sym world) here in
    let method = ok_is (method_of w i.resolution.site) (λ x. named_class i.resolution then λ class. static_state w x s) after there in
    let class = ok_is (named_class i.resolution) (λ class. static_state w method.0 s) after method.2 in
    static_types w s after method.0 m (is_named w i.resolution.site method.0 m named method.1) class.2

-- ---- the frames

-- what the callee gives back on top of what the caller keeps
pub result_is : (w : World) (result : Option FieldType) (rest : List VType)
    → option_map_or (λ kind. type_pushed (type_of_kind w kind) rest) result rest ≡ given_back (option_map (type_of_kind w) result) rest
result_is w None rest = refl
result_is w (Some t) rest = refl

both_false : (a b : Bool) → not (a || b) ≡ true → b ≡ false
both_false true b e = absurd cc
both_false false true e = absurd cc
both_false false false e = refl

neither_both : (a b c : Bool) → b ≡ false → (a && b && c) ≡ false
neither_both true b c e = ap (λ x. x && c) e
neither_both false b c e = refl

no_initializer : (w : World) (m : Named) → slice_get w.methods m.number ≡ Some m.method
    → not (has_initializer_name m.method.name) ≡ true → initializes w m.number ≡ false
no_initializer w m at ordinary =
    ap (λ o. option_map_or is_initializer o false) at
    ∙ neither_both (has_flag ACC_STATIC m.method.flags) (same_text m.method.name (codes "<clinit>")) (is_of_initializer m.method.signature)
    (both_false (same_text m.method.name (codes "<init>")) (same_text m.method.name (codes "<clinit>")) ordinary)

-- a class initializer is static
pub object_is_no_initializer : (w : World) (m : Named) → slice_get w.methods m.number ≡ Some m.method
    → has_flag ACC_STATIC m.method.flags ≡ false → initializes w m.number ≡ false
object_is_no_initializer w m at flag =
    ap (λ o. option_map_or is_initializer o false) at
    ∙ ap (λ b. b && same_text m.method.name (codes "<clinit>") && is_of_initializer m.method.signature) flag

-- a static method has no receiver
pub static_locals : (w : World) (info : MethodInfo) → has_flag ACC_STATIC info.flags ≡ true
    → (first_types w info).locals ≡ map (type_of_kind w) info.signature.args
static_locals w info static_flag =
    ap (λ b. (if b then [] else receiver_type w info ∷ []) ++ map (type_of_kind w) info.signature.args) static_flag

pub count_is : (w : World) (args : List FieldType) (tops : List Slot) → AreOf (stacked (reverse (map (type_of_kind w) args))) tops
    → sum_by slots args ≡ length tops
count_is w args tops of =
    let ts = map (type_of_kind w) args in
    sym (sym (same_length (stacked (reverse ts)) tops of) ∙ sym (length-reverse (stacked (reverse ts)))
    ∙ ap length (in_order ts) ∙ widths w args)

first_fits : (a b n k : ℕ) → k ≡ a → n ≡ a + b → k ≤ n
first_fits a b n k e f = omega arith

pub callee_is : (n : ℕ) (code : MethodCode) (k : ℕ) (stack tops left : List Slot) (g : Frame) → stack ≡ tops ++ left → k ≡ length tops
    → first_frame n code (reverse tops) ≡ Some g → callee n code k stack ≡ Some g
callee_is n code k stack tops left g lies count begins =
    let fits = first_fits (length tops) (length left) (length stack) k count (ap length lies ∙ length-append tops left) in
    let taken : take k stack ≡ tops =
    ap (λ j. take j stack) count ∙ ap (λ xs. take (length tops) xs) lies ∙ take-append_seam tops left in
    if_true (nat_le k (length stack)) (first_frame n code (reverse (take k stack))) None (le-leb k (length stack) fits)
    ∙ ap (λ xs. first_frame n code (reverse xs)) taken ∙ begins

pub left_is : (k : ℕ) (stack tops left : List Slot) → stack ≡ tops ++ left → k ≡ length tops → drop k stack ≡ left
left_is k stack tops left lies count =
    ap (λ j. drop j stack) count ∙ ap (λ xs. drop (length tops) xs) lies ∙ drop-append_seam tops left

-- the callee's frame begins, and the caller's waits below it
pub record StaticBegins (w : World) (f : Frame) (below : List Frame) (m : Named) (code : MethodCode) : Type 0 where
  pub frame : Frame
  pub is : callee m.number code (argument_slots m.method.signature) f.stack ≡ Some frame
  pub stands : StandsAtFirst w m.method frame
  pub under : AreUnder w frame.method (caller f (argument_slots m.method.signature) ∷ below)

pub static_begins : (w : World) (f : Frame) (below : List Frame) (index : ℕ) (m : Named) (code : MethodCode) → AreTyped w
    → (t : Typed w (f ∷ below)) → row_of t.0.at.place.instruction ≡ invoke static index
    → named_method w t.0.at.place.instruction.resolution ≡ Some m → has_flag ACC_STATIC m.method.flags ≡ true
    → code_at w m.number ≡ Some code → StaticBegins w f below m code
static_begins w f below index m code typed_world t known named static_flag code_is =
    let at = t.0.at in
    let i = at.place.instruction in
    let good = fine w f typed_world at in
    let p = parts w f.method at.env at.method in
    let call = called_types w at.env i at.state good.after index m (ap (λ (env : Environment). env.world) p.is) known named good.is in
    let args = m.method.signature.args in
    let tops = all_on_top w (argument_types w m.method.signature) at.state.types.stack call.rest f.stack call.taken t.0.kinds.stack in
    let count = count_is w args tops.tops tops.of in
    let first : AreOf (slot_types (first_types w m.method).locals) (reverse tops.tops) =
    subst (λ (ts : List VType). AreOf ts (reverse tops.tops))
    (in_order (map (type_of_kind w) args) ∙ ap slot_types (sym (static_locals w m.method static_flag)))
    (reversed_of (stacked (argument_types w m.method.signature)) tops.tops tops.of) in
    let b = begun w m.number m.method code (reverse tops.tops) typed_world call.at code_is first in
    let n = argument_slots m.method.signature in
    let waiting : Frame = caller f n in
    let kept = left_is n f.stack tops.tops tops.left tops.is count in
    let waits : Waits w (back_of w m.number) waiting = record {
      at = record {
        env = at.env;
        method = at.method;
        place = at.place;
        there = at.there;
        state = at.state;
        has = at.has;
        room = at.room;
      };
      after = good.after;
      is = good.is;
      rest = call.rest;
      given = ap (λ (s : TypeState). s.types.stack) (sym call.is)
          ∙ result_is w m.method.signature.result call.rest
          ∙ ap (λ o. given_back o call.rest) (sym (back_is w m.number m.method m.method.signature.result call.at refl));
      goes_on = ap row_goes_on known;
      kinds = record {
        locals = subst (λ (s : TypeState). AreOf s.types.locals (own_locals w f.method f.locals)) call.is t.0.kinds.locals;
        stack = subst (λ (xs : List Slot). AreOf call.rest xs) (sym kept) tops.below;
      };
      before = t.0.kinds.locals;
    } in
    let under : IsUnder w m.number waiting (initializes w m.number) =
    subst (IsUnder w m.number waiting) (sym (no_initializer w m call.at call.ordinary)) waits in
    record {
      frame = b.frame;
      is = callee_is m.number code n f.stack tops.tops tops.left b.frame tops.is count b.is;
      stands = b.stands;
      under = subst (λ (k : ℕ). AreUnder w k (waiting ∷ below)) (sym b.method) (under, t.1);
    }

pub static_goes : (w : World) (f : Frame) (below : List Frame) (index : ℕ) (m : Named) (code : MethodCode) → AreTyped w
    → (t : Typed w (f ∷ below)) → row_of t.0.at.place.instruction ≡ invoke static index
    → named_method w t.0.at.place.instruction.resolution ≡ Some m → has_flag ACC_STATIC m.method.flags ≡ true
    → code_at w m.number ≡ Some code → has_local_call w m ≡ true → nat_lt (length (f ∷ below)) most_frames ≡ true
    → Goes w (row w (f ∷ below))
static_goes w f below index m code typed_world t known named static_flag code_is local few =
    let i = t.0.at.place.instruction in
    let b = static_begins w f below index m code typed_world t known named static_flag code_is in
    let n = argument_slots m.method.signature in
    let waiting : Frame = caller f n in
    let after = b.frame ∷ waiting ∷ below in
    let frames : frames_called w m f below ≡ Some after =
    bind_is (code_at w m.number) (λ c. callee m.number c n f.stack >>= λ g. Some (g ∷ waiting ∷ below)) code (Some after) code_is
    (bind_is (callee m.number code n f.stack) (λ g. Some (g ∷ waiting ∷ below)) b.frame (Some after) b.is refl) in
    let both : (has_local_call w m && nat_lt (length (f ∷ below)) most_frames) ≡ true = rw (local, few) refl in
    let act : static_called w m f below ≡ Some after =
    if_true (has_local_call w m && nat_lt (length (f ∷ below)) most_frames) (frames_called w m f below) None both ∙ frames in
    record {
      frames = after;
      is = row_is w f below t.0.at (invoke static index) (Some after) known
          (bind_is (named_method w i.resolution) (λ x. static_called w x f below) m (Some after) named act);
      typed = (b.stands.plain (unguarded (native_at w m.number) (is_synchronized m.method) (is_hold w m.method) local), b.under);
    }
  where
    unguarded : (o : Option Native) (a b : Bool) → (is_none o && not a && not b) ≡ true → a ≡ false
    unguarded o false b e = refl
    unguarded None true b e = absurd cc
    unguarded (Some n) true b e = absurd cc
