-- Local rows and constants of frames that keep to the typing.
use Rattle.std.proofs.Common.{◌≡◌, ℕ, true, false, List, ◌∷◌, Option, Some, Result, Ok, refl, ap, sym, subst, ◌∙◌}
use Rattle.std.specs.List.{IsAmong}
use Rattle.items.specs.Options.{◌>>=◌}
use Rattle.items.proofs.Binds.{bind_is}
use Rattle.stack_maps.specs.declared.types.VType.{VType}
use Rattle.instruction_rows.specs.declared.row_why.RowWhy.{RowWhy}
use Rattle.instruction_rows.specs.declared.value.Value.{Value}
use Rattle.instruction_rows.specs.declared.value.Value.TheVariants as values
use Rattle.instruction_rows.specs.declared.value.Slot.{Slot}
use Rattle.instruction_rows.specs.Kinds.{kind_of, kind_of_type}
use Rattle.instruction_rows.specs.Contents.{Contents}
use Rattle.instruction_rows.specs.Rows.{LocalRow, Row, local, constant, wide_constant, targets_of_row, row_goes_on}
use Rattle.instruction_rows.specs.Table.{row as row_in_table}
use Rattle.instruction_rows.specs.SlotEffect.{Way, on, to, acted, pushed, divides_by_zero}
use Rattle.instruction_rows.specs.TypeEffect.{typed, type_pushed}
use Rattle.instruction_rows.specs.Pcs.{pc_after}
use Rattle.instruction_rows.specs.Soundness.{AreOf, HasKinds, IsSound, IsSoundRow, IsWay}
use Rattle.instruction_rows.proofs.RowLaws.{keeps}
use Rattle.instruction_rows.proofs.TableLaws.{sound}
use Rattle.instruction_rows.proofs.KindLaws.{pushed_kinds}
use Rattle.instruction_rows.proofs.Steps.{ok_is}
use Rattle.link_model.specs.declared.sites.Site.{Site}
use Rattle.link_model.specs.declared.sites.Site.TheVariants as sites
use Rattle.link_model.specs.World.{World}
use Rattle.verify_types.specs.ClassTypes.{type_of_value}
use Rattle.verify_types.specs.Objects.{constant_type}
use Rattle.verify_types.specs.TypeStates.{TypeState, with_types, with_stack}
use Rattle.verify_types.specs.Environment.{Instruction, Environment}
use Rattle.verify_types.specs.Effects.{row_of, row_state, state_after, constant_pushed as constant_state}
use Rattle.verify_types.specs.Typing.{Leads, IsFine, AreTyped}
use Rattle.state_model.specs.Frames.{Frame}
use Rattle.ref_model.specs.Fetch.{fetched, constant_of}
use Rattle.ref_model.specs.Monitors.{is_synchronized_at}
use Rattle.ref_model.specs.Frames.{contents, gone, moved, behind}
use Rattle.ref_model.specs.LocalRows.{local_act, constant_pushed, row}
use Rattle.frame_soundness.specs.Typed.{own_locals, own_contents, IsAt, Typed}
use Rattle.frame_soundness.specs.LocalLaws.{Goes}
use Rattle.frame_soundness.proofs.FetchLaws.{fetched_is, fine}
use Rattle.frame_soundness.proofs.Arrivals.{arrived, on_frames}
use Rattle.frame_soundness.proofs.OwnLocals.{acts_alike, divides_alike}

-- ---- the row of the top frame's instruction, where that is known

pub row_is : (w : World) (f : Frame) (below : List Frame) (at : IsAt w f) (r : Row) (after : Option (List Frame))
    → row_of at.place.instruction ≡ r → local_act w at.place.instruction r f below ≡ after → row w (f ∷ below) ≡ after
row_is w f below at r after known e =
    bind_is (fetched w f) (λ i. local_act w i (row_in_table i.instr.op) f below) at.place.instruction after (fetched_is w f at)
    (ap (λ x. local_act w at.place.instruction x f below) known ∙ e)

-- ---- rows of slots

-- the types that the row leaves
local_types : (env : Environment) (i : Instruction) (s after : TypeState) (r : LocalRow) → row_of i ≡ local r
    → state_after env i s ≡ Ok after → typed r s.types ≡ Ok after.types
local_types env i s after r known e =
    let here : row_state env i.instr.pc i.resolution (local r) s ≡ Ok after =
    ap (λ x. row_state env i.instr.pc i.resolution x s) (sym known) ∙ e in
    let parts = ok_is (typed r s.types) (λ types. Ok (with_types s types)) after here in
    let same : with_types s parts.0 ≡ after = inside (with_types s parts.0) after parts.2 in
    parts.1 ∙ ap (λ (a : TypeState). Ok a.types) same
  where
    inside : (a b : TypeState) → ◌≡◌ {A = Result TypeState RowWhy} (Ok a) (Ok b) → a ≡ b
    inside a b same = cc

sound_row : (i : Instruction) (r : LocalRow) → row_of i ≡ local r → IsSound r
sound_row i r known = subst IsSoundRow known (sound i.instr.op)

-- where a row leads
record LedTo (env : Environment) (s : TypeState) (next : ℕ) (way : Way) : Type 0 where
  pub pc : ℕ
  pub is : pc_after next way ≡ Some pc
  pub leads : Leads env s pc

led : (env : Environment) (i : Instruction) (s : TypeState) (r : LocalRow) (f : IsFine env i s) → row_of i ≡ local r → (way : Way)
    → IsWay r way → LedTo env f.after i.instr.next way
led env i s r f known on goes =
    record { pc = i.instr.next; is = refl; leads = f.on (ap row_goes_on known ∙ goes) }
led env i s r f known (to target) among =
    let x = f.to target (subst (λ (x : Row). IsAmong (targets_of_row x) target) (sym known) among) in
    record { pc = x.pc; is = x.is; leads = x.leads }

pub row_goes : (w : World) (f : Frame) (below : List Frame) (r : LocalRow) → AreTyped w → (t : Typed w (f ∷ below))
    → row_of t.0.at.place.instruction ≡ local r → divides_by_zero r (contents f) ≡ false → Goes w (row w (f ∷ below))
row_goes w f below r typed_world t known nonzero =
    let at = t.0.at in
    let i = at.place.instruction in
    let good = fine w f typed_world at in
    let b = is_synchronized_at w f.method in
    let k = keeps r at.state.types good.after.types (own_contents w f) (sound_row i r known)
    (local_types at.env i at.state good.after r known good.is) t.0.kinds (divides_alike r b (contents f) ∙ nonzero) in
    let whole = acts_alike b r (contents f) k.moved k.is in
    let to = led at.env i at.state r good known whole.moved.way (subst (IsWay r) (sym whole.way) k.way) in
    let own : Contents Slot = record { locals = own_locals w f.method whole.moved.contents.locals; stack = whole.moved.contents.stack } in
    let kinds : HasKinds good.after.types own = record {
      locals = subst (λ (xs : List Slot). AreOf good.after.types.locals xs) (sym whole.own) k.kinds.locals;
      stack = subst (λ (xs : List Slot). AreOf good.after.types.stack xs) (sym whole.stack) k.kinds.stack;
    } in
    let a = arrived w f at good.after to.pc whole.moved.contents to.leads kinds good.after_shallow in
    let goes : moved f i.instr.next whole.moved ≡ Some a.frame =
    bind_is (pc_after i.instr.next whole.moved.way) (λ pc. gone f pc whole.moved.contents) to.pc (Some a.frame) to.is a.is in
    let frames : moved f i.instr.next whole.moved >>= (λ g. Some (g ∷ below)) ≡ Some (a.frame ∷ below) =
    bind_is (moved f i.instr.next whole.moved) (λ g. Some (g ∷ below)) a.frame (Some (a.frame ∷ below)) goes refl in
    let act = bind_is (acted r (contents f)) (λ m. moved f i.instr.next m >>= λ g. Some (g ∷ below)) whole.moved
    (Some (a.frame ∷ below)) whole.is frames in
    record {
      frames = a.frame ∷ below;
      is = row_is w f below at (local r) (Some (a.frame ∷ below)) known act;
      typed = on_frames w f a.frame below a.method a.stands t.1;
    }

-- ---- constants

kind_of_constant : (w : World) (v : Value) → kind_of_type (type_of_value w v) ≡ Some (kind_of v)
kind_of_constant w (values.Int n) = refl
kind_of_constant w (values.Long n) = refl
kind_of_constant w values.Null = refl
kind_of_constant w (values.Ref object) = refl

-- the value of a constant that is typed
record Constant (w : World) (site : Site) (t : VType) : Type 0 where
  pub value : Value
  pub is : constant_of site ≡ Some value
  pub kind : kind_of_type t ≡ Some (kind_of value)

constant_is : (w : World) (site : Site) (t : VType) → constant_type w site ≡ Ok t → Constant w site t
constant_is w (sites.Value v) t e =
    let same : type_of_value w v ≡ t = inside (type_of_value w v) t e in
    record { value = v; is = refl; kind = subst (λ (u : VType). kind_of_type u ≡ Some (kind_of v)) same (kind_of_constant w v) }
  where
    inside : (a b : VType) → ◌≡◌ {A = Result VType RowWhy} (Ok a) (Ok b) → a ≡ b
    inside a b same = cc
constant_is w site t e = absurd cc

-- the frame after its instruction, with a constant pushed
constant_goes : (w : World) (f : Frame) (below : List Frame) (r : Row) → AreTyped w → (t : Typed w (f ∷ below))
    → row_of t.0.at.place.instruction ≡ r → row_goes_on r ≡ true
    → ((env : Environment) (i : Instruction) (s : TypeState) → row_state env i.instr.pc i.resolution r s ≡ constant_state env.world i.resolution s)
    → ((i : Instruction) → local_act w i r f below ≡ constant_pushed i.resolution i.instr.next f below)
    → Goes w (row w (f ∷ below))
constant_goes w f below r typed_world t known goes_on state act =
    let at = t.0.at in
    let i = at.place.instruction in
    let good = fine w f typed_world at in
    let here : constant_state at.env.world i.resolution at.state ≡ Ok good.after =
    sym (state at.env i at.state) ∙ ap (λ x. row_state at.env i.instr.pc i.resolution x at.state) (sym known) ∙ good.is in
    let parts = ok_is (constant_type at.env.world i.resolution.site) (λ u. Ok (with_stack at.state (type_pushed u at.state.types.stack)))
    good.after here in
    let pushing : with_stack at.state (type_pushed parts.0 at.state.types.stack) ≡ good.after =
    inside (with_stack at.state (type_pushed parts.0 at.state.types.stack)) good.after parts.2 in
    let c = constant_is at.env.world i.resolution.site parts.0 parts.1 in
    let stack = pushed c.value f.stack in
    let slots : Contents Slot = record { locals = f.locals; stack = stack } in
    let own : Contents Slot = record { locals = own_locals w f.method f.locals; stack = stack } in
    let kinds : HasKinds (with_stack at.state (type_pushed parts.0 at.state.types.stack)).types own =
    record { locals = t.0.kinds.locals; stack = pushed_kinds parts.0 c.value at.state.types.stack f.stack c.kind t.0.kinds.stack } in
    let leads = good.on (ap row_goes_on known ∙ goes_on) in
    let a = arrived w f at good.after i.instr.next slots leads (subst (λ (s : TypeState). HasKinds s.types own) pushing kinds) good.after_shallow in
    let frames : behind f i.instr.next stack >>= (λ g. Some (g ∷ below)) ≡ Some (a.frame ∷ below) =
    bind_is (behind f i.instr.next stack) (λ g. Some (g ∷ below)) a.frame (Some (a.frame ∷ below)) a.is refl in
    let done = bind_is (constant_of i.resolution.site) (λ v. behind f i.instr.next (pushed v f.stack) >>= λ g. Some (g ∷ below)) c.value
    (Some (a.frame ∷ below)) c.is frames in
    record {
      frames = a.frame ∷ below;
      is = row_is w f below at r (Some (a.frame ∷ below)) known (act i ∙ done);
      typed = on_frames w f a.frame below a.method a.stands t.1;
    }
  where
    inside : (a b : TypeState) → ◌≡◌ {A = Result TypeState RowWhy} (Ok a) (Ok b) → a ≡ b
    inside a b same = cc

pub narrow_goes : (w : World) (f : Frame) (below : List Frame) (index : ℕ) → AreTyped w → (t : Typed w (f ∷ below))
    → row_of t.0.at.place.instruction ≡ constant index → Goes w (row w (f ∷ below))
narrow_goes w f below index typed_world t known =
    constant_goes w f below (constant index) typed_world t known refl (λ env i s. refl) (λ i. refl)

pub wide_goes : (w : World) (f : Frame) (below : List Frame) (index : ℕ) → AreTyped w → (t : Typed w (f ∷ below))
    → row_of t.0.at.place.instruction ≡ wide_constant index → Goes w (row w (f ∷ below))
wide_goes w f below index typed_world t known =
    constant_goes w f below (wide_constant index) typed_world t known refl (λ env i s. refl) (λ i. refl)
