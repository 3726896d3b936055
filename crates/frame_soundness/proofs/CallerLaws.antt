-- Frames that invoke a method of an object wait for what it gives back.
use Rattle.std.proofs.Common.{◌≡◌, ℕ, suc, Bool, true, false, List, [], ◌∷◌, drop, Some, Result, Ok, refl, ap, sym, subst, ◌∙◌}
use Rattle.std.specs.Prelude.{not, ◌==◌, if◌then◌else◌}
use Rattle.class_grammar.specs.Names.{is_initializer as has_initializer_name}
use Rattle.opcodes.specs.declared.op.ValueKind.TheVariants as kinds
use Rattle.stack_maps.specs.declared.types.VType.{VType}
use Rattle.stack_maps.specs.declared.types.VType.TheVariants as types
use Rattle.instruction_rows.specs.declared.row_why.RowWhy.{RowWhy}
use Rattle.instruction_rows.specs.declared.row_why.RowWhy.TheVariants as whys
use Rattle.instruction_rows.specs.declared.value.Slot.{Slot}
use Rattle.instruction_rows.specs.Results.{◌then◌}
use Rattle.instruction_rows.specs.Kinds.{kind_of_type}
use Rattle.instruction_rows.specs.Rows.{Invocation, virtual, special, static, interface, dynamic, invoke, row_goes_on}
use Rattle.instruction_rows.specs.TypeEffect.{type_popped}
use Rattle.instruction_rows.specs.Soundness.{IsOf, AreOf}
use Rattle.instruction_rows.proofs.KindLaws.{holds, is_of}
use Rattle.instruction_rows.proofs.Steps.{ok_is, passed}
use Rattle.link_model.specs.declared.members.MethodInfo.{MethodInfo}
use Rattle.link_model.specs.World.{World, class_type}
use Rattle.verify_types.specs.Operands.{only_if, wanted, all_wanted}
use Rattle.verify_types.specs.Objects.{named_class}
use Rattle.verify_types.specs.TypeStates.{TypeState, with_stack, is_this, is_new, replaced}
use Rattle.verify_types.specs.Environment.{Instruction, Environment, is_constructor}
use Rattle.verify_types.specs.Calls.{method_of, argument_types, arguments_taken, result_pushed, result_given, instance_called, special_called, is_own_method, constructor_called, object_initialized, initialized, may_initialize_new, may_initialize_this, called}
use Rattle.verify_types.specs.Effects.{row_of, row_state, state_after}
use Rattle.verify_types.specs.Typing.{AreTyped}
use Rattle.state_model.specs.Frames.{Frame}
use Rattle.ref_model.specs.Kinds.{argument_slots}
use Rattle.ref_model.specs.Fetch.{Named, named_method}
use Rattle.frame_soundness.specs.Typed.{own_locals, Stands, given_back}
use Rattle.frame_soundness.specs.CallLaws.{CallerWaits, takes_receiver}
use Rattle.frame_soundness.proofs.FetchLaws.{parts, fine}
use Rattle.frame_soundness.proofs.ReturnLaws.{back_is}
use Rattle.frame_soundness.proofs.Exceptions.{class_kind}
use Rattle.frame_soundness.proofs.ValueLaws.{wanted_is}
use Rattle.frame_soundness.proofs.CallLaws.{is_named, result_is}

-- what the typing says, apart from frames
pub record Took (w : World) (s after : TypeState) (m : Named) : Type 0 where
  pub rest : List VType
  pub taken : all_wanted w (argument_types w m.method.signature) s.types.stack ≡ Ok rest
  pub receiver : VType × List VType
  pub popped : type_popped kinds.Reference rest ≡ Ok receiver
  pub under : List VType
  pub stack : after.types.stack ≡ result_pushed w m.method under
  pub kept : (xs : List Slot) → AreOf receiver.1 xs → AreOf under xs
  pub locals : (xs : List Slot) → AreOf s.types.locals xs → AreOf after.types.locals xs

-- ---- methods but constructors

instance_took : (w : World) (s after : TypeState) (class : ℕ) (m : Named) → instance_called w m.method class s ≡ Ok after → Took w s after m
instance_took w s after class m e =
    let args = ok_is (arguments_taken w m.method s.types.stack)
    (λ rest. wanted w (class_type w class) rest then λ below. result_given w m.method s below) after e in
    let low = ok_is (wanted w (class_type w class) args.0) (λ below. result_given w m.method s below) after args.2 in
    let x = wanted_is w (class_type w class) kinds.Reference args.0 low.0 (class_kind w class) low.1 in
    let given = passed (not (has_initializer_name m.method.name)) (with_stack s (result_pushed w m.method low.0)) after whys.Init low.2 in
    record {
      rest = args.0;
      taken = args.1;
      receiver = x.0;
      popped = x.1;
      under = low.0;
      stack = ap (λ (a : TypeState). a.types.stack) (sym given.1);
      kept = λ xs of. subst (λ (us : List VType). AreOf us xs) x.2 of;
      locals = λ xs of. subst (λ (a : TypeState). AreOf a.types.locals xs) given.1 of;
    }

-- ---- constructors

-- references in place of references
replaced_of : (test : VType → Bool) (t : VType) → ((u : VType) → test u ≡ true → kind_of_type u ≡ Some kinds.Reference)
    → kind_of_type t ≡ Some kinds.Reference → (ts : List VType) (xs : List Slot) → AreOf ts xs → AreOf (replaced test t ts) xs
replaced_of test t tests kind [] [] of = tt
replaced_of test t tests kind [] (x ∷ xs) of = absurd of
replaced_of test t tests kind (u ∷ ts) [] of = absurd of
replaced_of test t tests kind (u ∷ ts) (x ∷ xs) of = (by (test u) refl, replaced_of test t tests kind ts xs of.1)
  where
    by : (b : Bool) → test u ≡ b → IsOf (if b then t else u) x
    by true e = is_of kinds.Reference t x kind (holds kinds.Reference u x (tests u e) of.0)
    by false e = of.0

this_kind : (u : VType) → is_this u ≡ true → kind_of_type u ≡ Some kinds.Reference
this_kind types.UninitThis e = refl
this_kind u e = absurd cc

new_kind : (pc : ℕ) (u : VType) → is_new pc u ≡ true → kind_of_type u ≡ Some kinds.Reference
new_kind pc (types.Uninit new) e = refl
new_kind pc u e = absurd cc

-- a state whose object is initialized
record Initialized (s after : TypeState) : Type 0 where
  pub locals : (xs : List Slot) → AreOf s.types.locals xs → AreOf after.types.locals xs
  pub stack : (xs : List Slot) → AreOf s.types.stack xs → AreOf after.types.stack xs

by_test : (test : VType → Bool) (t : VType) (flag : Bool) (s after : TypeState)
    → ((u : VType) → test u ≡ true → kind_of_type u ≡ Some kinds.Reference) → kind_of_type t ≡ Some kinds.Reference
    → initialized test t flag s ≡ after → Initialized s after
by_test test t flag s after tests kind is = subst (Initialized s) is (record {
  locals = λ xs of. replaced_of test t tests kind s.types.locals xs of;
  stack = λ xs of. replaced_of test t tests kind s.types.stack xs of;
})

initialized_is : (env : Environment) (pc class : ℕ) (t : VType) (s after : TypeState) → object_initialized env pc class t s ≡ Ok after
    → Initialized s after
initialized_is env pc class (types.Uninit new) s after e =
    let p = passed (may_initialize_new env new class) (initialized (is_new new) (class_type env.world class) s.this_uninit s) after whys.Init e in
    by_test (is_new new) (class_type env.world class) s.this_uninit s after (new_kind new) (class_kind env.world class) p.1
initialized_is env pc class types.UninitThis s after e =
    let p = passed (may_initialize_this env pc class) (initialized is_this (class_type env.world env.method.class) false s) after whys.Init e in
    by_test is_this (class_type env.world env.method.class) false s after this_kind (class_kind env.world env.method.class) p.1
initialized_is env pc class t s after e = absurd cc

same_state : (a b : TypeState) → ◌≡◌ {A = Result TypeState RowWhy} (Ok a) (Ok b) → a ≡ b
same_state a b e = cc

constructor_took : (env : Environment) (s after : TypeState) (pc class : ℕ) (m : Named) → constructor_called env pc m.method class s ≡ Ok after
    → Took env.world s after m
constructor_took env s after pc class m e =
    let w = env.world in
    let args = ok_is (arguments_taken w m.method s.types.stack) (λ rest. type_popped kinds.Reference rest then λ x.
    only_if (m.method.class == class) whys.Init x then λ y. object_initialized env pc class y.0 (with_stack s y.1) then λ after.
    Ok (with_stack after (result_pushed w m.method after.types.stack))) after e in
    let x = ok_is (type_popped kinds.Reference args.0) (λ (x : VType × List VType).
    only_if (m.method.class == class) whys.Init x then λ y. object_initialized env pc class y.0 (with_stack s y.1) then λ after.
    Ok (with_stack after (result_pushed w m.method after.types.stack))) after args.2 in
    let y = ok_is (only_if (m.method.class == class) whys.Init x.0) (λ (y : VType × List VType).
    object_initialized env pc class y.0 (with_stack s y.1) then λ after.
    Ok (with_stack after (result_pushed w m.method after.types.stack))) after x.2 in
    let one = passed (m.method.class == class) x.0 y.0 whys.Init y.1 in
    let done = ok_is (object_initialized env pc class y.0.0 (with_stack s y.0.1))
    (λ (after : TypeState). Ok (with_stack after (result_pushed w m.method after.types.stack))) after y.2 in
    let i = initialized_is env pc class y.0.0 (with_stack s y.0.1) done.0 done.1 in
    let last = same_state (with_stack done.0 (result_pushed w m.method done.0.types.stack)) after done.2 in
    record {
      rest = args.0;
      taken = args.1;
      receiver = x.0;
      popped = x.1;
      under = done.0.types.stack;
      stack = ap (λ (a : TypeState). a.types.stack) (sym last);
      kept = λ xs of. i.stack xs (subst (λ (z : VType × List VType). AreOf z.1 xs) one.1 of);
      locals = λ xs of. subst (λ (a : TypeState). AreOf a.types.locals xs) last (i.locals xs of);
    }

-- ---- each invocation

special_took : (env : Environment) (s after : TypeState) (pc class : ℕ) (m : Named) → (b : Bool)
    → (if b then constructor_called env pc m.method class s else special_called env m.method class s) ≡ Ok after → Took env.world s after m
special_took env s after pc class m true e = constructor_took env s after pc class m e
special_took env s after pc class m false e =
    let x = ok_is (instance_called env.world m.method env.method.class s) (λ after. only_if (is_own_method env class) whys.Init after) after e in
    let same = passed (is_own_method env class) x.0 after whys.Init x.2 in
    instance_took env.world s after env.method.class m (x.1 ∙ ap Ok same.1)

took : (env : Environment) (s after : TypeState) (pc class : ℕ) (m : Named) (invocation : Invocation) → takes_receiver invocation ≡ true
    → called env pc invocation m.method class s ≡ Ok after → Took env.world s after m
took env s after pc class m virtual receiver e = instance_took env.world s after class m e
took env s after pc class m (interface count) receiver e = instance_took env.world s after class m e
took env s after pc class m special receiver e = special_took env s after pc class m (is_constructor m.method) e
took env s after pc class m static receiver e = absurd cc
took env s after pc class m dynamic receiver e = absurd cc

pub invocation_took : (w : World) (env : Environment) (i : Instruction) (s after : TypeState) (invocation : Invocation) (index : ℕ) (m : Named)
    → w ≡ env.world → row_of i ≡ invoke invocation index → takes_receiver invocation ≡ true → named_method w i.resolution ≡ Some m
    → state_after env i s ≡ Ok after → Took w s after m
invocation_took w env i s after invocation index m world known receiver named e =
    let here : row_state env i.instr.pc i.resolution (invoke invocation index) s ≡ Ok after =
    ap (λ x. row_state env i.instr.pc i.resolution x s) (sym known) ∙ e in
    let method = ok_is (method_of env.world i.resolution.site)
    (λ x. named_class i.resolution then λ class. called env i.instr.pc invocation x class s) after here in
    let class = ok_is (named_class i.resolution) (λ class. called env i.instr.pc invocation method.0 class s) after method.2 in
    let site : method_of w i.resolution.site ≡ Ok method.0 =
    subst (λ (v : World). method_of v i.resolution.site ≡ Ok method.0) (sym world) method.1 in
    let n = is_named w i.resolution.site method.0 m named site in
    let call : called env i.instr.pc invocation m.method class.0 s ≡ Ok after =
    subst (λ (x : MethodInfo). called env i.instr.pc invocation x class.0 s ≡ Ok after) n.info_is class.2 in
    subst (λ (v : World). Took v s after m) (sym world) (took env s after i.instr.pc class.0 m invocation receiver call)

pub callers_wait : (w : World) (f : Frame) (invocation : Invocation) (index : ℕ) (m : Named) → AreTyped w → (s : Stands w f)
    → row_of s.at.place.instruction ≡ invoke invocation index → takes_receiver invocation ≡ true
    → named_method w s.at.place.instruction.resolution ≡ Some m → CallerWaits w f s m
callers_wait w f invocation index m typed s known receiver named =
    let at = s.at in
    let good = fine w f typed at in
    let p = parts w f.method at.env at.method in
    let t = invocation_took w at.env at.place.instruction at.state good.after invocation index m
    (ap (λ (env : Environment). env.world) p.is) known receiver named good.is in
    let n = suc (argument_slots m.method.signature) in
    record {
      rest = t.rest;
      taken = t.taken;
      receiver = t.receiver;
      popped = t.popped;
      waits = λ chosen there same left. record {
        at = record {
          env = at.env;
          method = at.method;
          place = at.place;
          there = at.there;
          state = at.state;
          has = at.has;
          room = at.room;
        };
        after = good.after;
        is = good.is;
        rest = t.under;
        given = t.stack ∙ result_is w m.method.signature.result t.under
            ∙ ap (λ o. given_back o t.under) (sym (back_is w chosen.number chosen.method m.method.signature.result there same));
        goes_on = ap row_goes_on known;
        kinds = record { locals = t.locals (own_locals w f.method f.locals) s.kinds.locals; stack = t.kept (drop n f.stack) left };
        before = s.kinds.locals;
      };
    }
