-- Returns of frames that keep to the typing.
use Rattle.std.proofs.Common.{◌≡◌, ◌≢◌, ◌⊎◌, inl, inr, ℕ, Bool, true, false, cond, List, [], ◌∷◌, Option, Some, None, Result, Ok, refl, ap, sym, subst, ◌∙◌}
use Rattle.std.specs.Prelude.{is_none, slice_get, ◌==◌, ◌||◌, if◌then◌else◌}
use Rattle.std.specs.Option.{option_map}
use Rattle.items.specs.Options.{◌>>=◌}
use Rattle.items.proofs.Binds.{bind_is}
use Rattle.descriptors.specs.declared.kind.ElementType.{ElementType}
use Rattle.descriptors.specs.declared.kind.ElementType.TheVariants as elements
use Rattle.descriptors.specs.declared.kind.Kind.{Kind as FieldType}
use Rattle.opcodes.specs.declared.op.ValueKind.{ValueKind}
use Rattle.stack_maps.specs.declared.types.VType.{VType}
use Rattle.stack_maps.specs.declared.types.VType.TheVariants as types
use Rattle.instruction_rows.specs.declared.row_why.RowWhy.{RowWhy}
use Rattle.instruction_rows.specs.declared.value.Value.{Value}
use Rattle.instruction_rows.specs.declared.value.Value.TheVariants as values
use Rattle.instruction_rows.specs.declared.value.Slot.{Slot}
use Rattle.instruction_rows.specs.Results.{◌then◌}
use Rattle.instruction_rows.specs.Kinds.{kind_of, kind_of_type, value}
use Rattle.instruction_rows.specs.Contents.{Contents}
use Rattle.instruction_rows.specs.Rows.{returns}
use Rattle.instruction_rows.specs.SlotEffect.{popped, pushed}
use Rattle.instruction_rows.specs.TypeEffect.{type_popped}
use Rattle.instruction_rows.specs.Soundness.{AreOf, HasKinds, KeepsKind}
use Rattle.instruction_rows.proofs.KindLaws.{pushed_kinds, kind_of_value}
use Rattle.instruction_rows.proofs.StackLaws.{popped_of}
use Rattle.instruction_rows.proofs.Steps.{ok_is}
use Rattle.link_model.specs.declared.members.MethodInfo.{MethodInfo}
use Rattle.link_model.specs.World.{World}
use Rattle.verify_types.specs.Assignability.{assignable}
use Rattle.verify_types.specs.ClassTypes.{type_of_element, type_of_kind}
use Rattle.verify_types.specs.TypeStates.{TypeState, with_stack}
use Rattle.verify_types.specs.Environment.{Instruction, Environment}
use Rattle.verify_types.specs.Effects.{row_of, row_state, state_after, returned_from}
use Rattle.verify_types.specs.Handlers.{is_result, is_returned}
use Rattle.verify_types.specs.Typing.{IsFine, AreTyped}
use Rattle.verify_types.proofs.KindLaws.{kept as kinds_kept}
use Rattle.verify_types.proofs.ListLaws.{option_true}
use Rattle.state_model.specs.Frames.{Frame}
use Rattle.ref_model.specs.Kinds.{kept}
use Rattle.ref_model.specs.Fetch.{fetched}
use Rattle.ref_model.specs.Frames.{behind, is_root, is_guarded_frame, is_left_openly, stack_returned, returned_to, returned}
use Rattle.ref_model.specs.LocalRows.{row}
use Rattle.frame_soundness.specs.Typed.{own_locals, own_contents, IsAt, Waits, IsUnder, Typed, given_back, back_of, result_type}
use Rattle.frame_soundness.specs.LocalLaws.{Goes}
use Rattle.frame_soundness.proofs.FetchLaws.{parts, fetched_is, fine}
use Rattle.frame_soundness.proofs.Arrivals.{arrived, on_frames}
use Rattle.frame_soundness.proofs.LocalRowLaws.{row_is}

-- ---- the kind of a result

-- Only Top, float and double have no kind, and a value with a kind is none of the last two.
no_float : (w : World) (a b : VType) → (b ≡ types.Float) ⊎ (b ≡ types.Double) → assignable w a b ≡ true → kind_of_type a ≡ None
no_float w a b (inl e) may = float a (ap (assignable w a) (sym e) ∙ may)
  where
    float : (a : VType) → assignable w a types.Float ≡ true → kind_of_type a ≡ None
    float types.Float may = refl
    float a may = absurd cc
no_float w a b (inr e) may = double a (ap (assignable w a) (sym e) ∙ may)
  where
    double : (a : VType) → assignable w a types.Double ≡ true → kind_of_type a ≡ None
    double types.Double may = refl
    double a may = absurd cc

-- a type of a descriptor has a kind, or is float or double
element_kind : (w : World) (element : ElementType) → kind_of_type (type_of_element w element) ≡ None
    → (type_of_element w element ≡ types.Float) ⊎ (type_of_element w element ≡ types.Double)
element_kind w elements.Byte e = absurd cc
element_kind w elements.Char e = absurd cc
element_kind w elements.Double e = inr refl
element_kind w elements.Float e = inl refl
element_kind w elements.Int e = absurd cc
element_kind w elements.Long e = absurd cc
element_kind w elements.Short e = absurd cc
element_kind w elements.Bool e = absurd cc
element_kind w (elements.Class name) e = absurd cc

no_kind_by : (b : Bool) (t named : VType) → (kind_of_type t ≡ None → (t ≡ types.Float) ⊎ (t ≡ types.Double)) → kind_of_type named ≢ None
    → kind_of_type (cond b t named) ≡ None → (cond b t named ≡ types.Float) ⊎ (cond b t named ≡ types.Double)
no_kind_by true t named element array e = element e
no_kind_by false t named element array e = absurd (array e)

no_kind : (w : World) (t : FieldType) → kind_of_type (type_of_kind w t) ≡ None
    → (type_of_kind w t ≡ types.Float) ⊎ (type_of_kind w t ≡ types.Double)
no_kind w t e = no_kind_by (t.dimensions == 0) (type_of_element w t.element) _ (element_kind w t.element) (λ none. cc) e

-- what is returned has the kind that the descriptor says
result_kind : (w : World) (a : VType) (t : FieldType) (k : ValueKind) → assignable w a (type_of_kind w t) ≡ true
    → kind_of_type a ≡ Some k → kind_of_type (type_of_kind w t) ≡ Some k
result_kind w a t k may has = by (kinds_kept w a (type_of_kind w t) may)
  where
    by : KeepsKind a (type_of_kind w t) → kind_of_type (type_of_kind w t) ≡ Some k
    by (inr same) = sym same ∙ has
    by (inl none) = let e = no_float w a (type_of_kind w t) (no_kind w t none) may in absurd cc

pub kept_kind : (t : FieldType) (v : Value) → kind_of (kept t v) ≡ kind_of v
kept_kind t (values.Int n) = refl
kept_kind t (values.Long n) = refl
kept_kind t values.Null = refl
kept_kind t (values.Ref object) = refl

-- ---- what a return gives to the frame below

pub record Given (w : World) (f : Frame) (kind : Option ValueKind) (rest : List VType) (under : List Slot) : Type 0 where
  pub info : MethodInfo
  pub info_is : slice_get w.methods f.method ≡ Some info
  pub stack : List Slot
  pub is : stack_returned kind info f.stack under ≡ Some stack
  pub kinds : AreOf (given_back (back_of w f.method) rest) stack

none_is : {A : Type 0} (o : Option A) → is_none o ≡ true → o ≡ None
none_is None e = refl
none_is (Some x) e = absurd cc

-- what the method gives back, by its result
pub back_is : (w : World) (n : ℕ) (info : MethodInfo) (result : Option FieldType) → slice_get w.methods n ≡ Some info
    → info.signature.result ≡ result → back_of w n ≡ option_map (type_of_kind w) result
back_is w n info result at has =
    bind_is (slice_get w.methods n) (result_type w) info (option_map (type_of_kind w) result) at (ap (option_map (type_of_kind w)) has)

nothing_given : (w : World) (f : Frame) (at : IsAt w f) → is_returned at.env (returns None) at.state ≡ true → (rest : List VType)
    (under : List Slot) → AreOf rest under → Given w f None rest under
nothing_given w f at good rest under of =
    let p = parts w f.method at.env at.method in
    let result = ap (λ (env : Environment). env.method.signature.result) p.is ∙ none_is at.env.method.signature.result good in
    record {
      info = p.info;
      info_is = p.info_is;
      stack = under;
      is = refl;
      kinds = subst (λ (b : Option VType). AreOf (given_back b rest) under) (sym (back_is w f.method p.info None p.info_is result)) of;
    }

value_given : (w : World) (f : Frame) (k : ValueKind) → (at : IsAt w f) → HasKinds at.state.types (own_contents w f)
    → (x : VType × List VType) → type_popped k at.state.types.stack ≡ Ok x
    → is_returned at.env (returns (Some k)) at.state ≡ true → (rest : List VType)
    (under : List Slot) → AreOf rest under → Given w f (Some k) rest under
value_given w f k at kinds x taken good rest under of =
    let p = parts w f.method at.env at.method in
    let fits : is_result at.env (Ok x) ≡ true = ap (is_result at.env) (sym taken) ∙ good in
    let result = option_true (λ (t : FieldType). assignable at.env.world x.0 (type_of_kind at.env.world t)) at.env.method.signature.result fits in
    let t = result.0 in
    let world : w ≡ at.env.world = ap (λ (env : Environment). env.world) p.is in
    let may : assignable w x.0 (type_of_kind w t) ≡ true = subst (λ (v : World). assignable v x.0 (type_of_kind v t) ≡ true) (sym world) result.2 in
    let has = ap (λ (env : Environment). env.method.signature.result) p.is ∙ result.1 in
    let pop = popped_of k at.state.types.stack x f.stack taken kinds.stack in
    let v = kept t (value k pop.value) in
    let kind : kind_of_type (type_of_kind w t) ≡ Some (kind_of v) =
    result_kind w x.0 t k may pop.kind ∙ ap Some (sym (kept_kind t (value k pop.value) ∙ kind_of_value k pop.value)) in
    let stack = pushed v under in
    let inner = bind_is p.info.signature.result (λ r. Some (pushed (kept r (value k pop.value)) under)) t (Some stack) has refl in
    record {
      info = p.info;
      info_is = p.info_is;
      stack = stack;
      is = bind_is (popped k f.stack) (λ y. p.info.signature.result >>= λ r. Some (pushed (kept r (value k y.0)) under))
          (pop.value, pop.left) (Some stack) pop.is inner;
      kinds = subst (λ (b : Option VType). AreOf (given_back b rest) stack) (sym (back_is w f.method p.info (Some t) p.info_is has))
          (pushed_kinds (type_of_kind w t) v rest under kind of);
    }

-- the types that a return with a value takes
taken_types : (env : Environment) (i : Instruction) (s after : TypeState) (k : ValueKind) → row_of i ≡ returns (Some k)
    → state_after env i s ≡ Ok after → (x : VType × List VType) × (type_popped k s.types.stack ≡ Ok x)
taken_types env i s after k known e =
    let here : row_state env i.instr.pc i.resolution (returns (Some k)) s ≡ Ok after =
    ap (λ x. row_state env i.instr.pc i.resolution x s) (sym known) ∙ e in
    let outer = ok_is (returned_from (Some k) s.types.stack) (λ stack. Ok (with_stack s stack)) after here in
    let inner = ok_is (type_popped k s.types.stack) (λ x. Ok x.1) outer.0 outer.1 in
    (inner.0, inner.1)

pub given : (w : World) (f : Frame) (kind : Option ValueKind) → (at : IsAt w f) → HasKinds at.state.types (own_contents w f)
    → IsFine at.env at.place.instruction at.state → row_of at.place.instruction ≡ returns kind → (rest : List VType)
    (under : List Slot) → AreOf rest under → Given w f kind rest under
given w f None at kinds good known rest under of =
    nothing_given w f at (ap (λ r. is_returned at.env r at.state) (sym known) ∙ good.returned) rest under of
given w f (Some k) at kinds good known rest under of =
    let taken = taken_types at.env at.place.instruction at.state good.after k known good.is in
    value_given w f k at kinds taken.0 taken.1 (ap (λ r. is_returned at.env r at.state) (sym known) ∙ good.returned) rest under of

-- ---- the caller goes on

same_state : (a b : TypeState) (r : Result TypeState RowWhy) → r ≡ Ok a → r ≡ Ok b → a ≡ b
same_state a b r x y = cc

pub returned_goes : (w : World) (f g : Frame) (rest : List Frame) (kind : Option ValueKind) → AreTyped w → (t : Typed w (f ∷ g ∷ rest))
    → row_of t.0.at.place.instruction ≡ returns kind → Waits w (back_of w f.method) g → Goes w (returned w kind f (g ∷ rest))
returned_goes w f g rest kind typed_world t known h =
    let at = t.0.at in
    let b = given w f kind at t.0.kinds (fine w f typed_world at) known h.rest g.stack h.kinds.stack in
    let next = h.at.place.instruction.instr.next in
    let good = fine w g typed_world h.at in
    let same = same_state h.after good.after (state_after h.at.env h.at.place.instruction h.at.state) h.is good.is in
    let slots : Contents Slot = record { locals = g.locals; stack = b.stack } in
    let own : Contents Slot = record { locals = own_locals w g.method g.locals; stack = b.stack } in
    let kinds : HasKinds h.after.types own = record {
      locals = h.kinds.locals;
      stack = subst (λ (ts : List VType). AreOf ts b.stack) (sym h.given) b.kinds;
    } in
    let a = arrived w g h.at good.after next slots (good.on h.goes_on)
    (subst (λ (s : TypeState). HasKinds s.types own) same kinds) good.after_shallow in
    let to : returned_to w g b.stack ≡ Some a.frame =
    bind_is (fetched w g) (λ call. behind g call.instr.next b.stack) h.at.place.instruction (Some a.frame) (fetched_is w g h.at) a.is in
    let last : returned_to w g b.stack >>= (λ caller. Some (caller ∷ rest)) ≡ Some (a.frame ∷ rest) =
    bind_is (returned_to w g b.stack) (λ caller. Some (caller ∷ rest)) a.frame (Some (a.frame ∷ rest)) to refl in
    let stack = bind_is (stack_returned kind b.info f.stack g.stack)
    (λ stack. returned_to w g stack >>= λ caller. Some (caller ∷ rest)) b.stack (Some (a.frame ∷ rest)) b.is last in
    record {
      frames = a.frame ∷ rest;
      is = bind_is (slice_get w.methods f.method)
          (λ m. stack_returned kind m f.stack g.stack >>= λ stack. returned_to w g stack >>= λ caller. Some (caller ∷ rest))
          b.info (Some (a.frame ∷ rest)) b.info_is stack;
      typed = on_frames w g a.frame rest a.method a.stands t.1.1;
    }

if_false : {A : Type 0} (b : Bool) (x y : A) → b ≡ false → (if b then x else y) ≡ y
if_false true x y e = absurd cc
if_false false x y e = refl

-- a return from a frame that is no root frame
pub inner_goes : (w : World) (f : Frame) (below : List Frame) (kind : Option ValueKind) → AreTyped w → (t : Typed w (f ∷ below))
    → row_of t.0.at.place.instruction ≡ returns kind → is_root w f below ≡ false → Goes w (returned w kind f below)
inner_goes w f [] kind typed_world t known root = absurd cc
inner_goes w f (g ∷ rest) kind typed_world t known root =
    returned_goes w f g rest kind typed_world t known (subst (IsUnder w f.method g) root t.1.0)

pub return_goes : (w : World) (f : Frame) (below : List Frame) (kind : Option ValueKind) → AreTyped w → (t : Typed w (f ∷ below))
    → row_of t.0.at.place.instruction ≡ returns kind → is_left_openly w f below ≡ false → Goes w (row w (f ∷ below))
return_goes w f below kind typed_world t known inner =
    let goes = inner_goes w f below kind typed_world t known (no_root (is_root w f below) (is_guarded_frame w f) inner) in
    record {
      frames = goes.frames;
      is = row_is w f below t.0.at (returns kind) (Some goes.frames) known
          (if_false (is_left_openly w f below) None (returned w kind f below) inner ∙ goes.is);
      typed = goes.typed;
    }
  where
    no_root : (a b : Bool) → (a || b) ≡ false → a ≡ false
    no_root true b e = absurd cc
    no_root false b e = refl
