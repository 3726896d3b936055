-- Where local instructions are defined, they keep to the typing.
use Rattle.std.proofs.Common.{◌≡◌, ℕ, zero, suc, Bool, true, false, List, [], ◌∷◌, length, Option, Some, None, refl, sym, subst, ◌∙◌}
use Rattle.std.specs.Prelude.{nat_lt, ◌&&◌, if◌then◌else◌}
use Rattle.items.specs.Options.{◌>>=◌}
use Rattle.items.proofs.Binds.{some_is}
use Rattle.instruction_rows.specs.Rows.{Row, local, constant, wide_constant, returns, invoke, event, refused, virtual, special, static, interface, dynamic}
use Rattle.instruction_rows.specs.SlotEffect.{acted}
use Rattle.instruction_rows.proofs.DivisionLaws.{nonzero_of}
use Rattle.link_model.specs.World.{World}
use Rattle.link_model.specs.Decoded.{code_at}
use Rattle.verify_types.specs.Effects.{row_of}
use Rattle.verify_types.specs.Typing.{AreTyped}
use Rattle.verify_types.proofs.ListLaws.{and_true}
use Rattle.state_model.specs.Frames.{Frame}
use Rattle.ref_model.specs.Kinds.{argument_slots}
use Rattle.ref_model.specs.Fetch.{Named, named_method}
use Rattle.ref_model.specs.Frames.{contents, moved, callee, caller, is_left_openly, returned}
use Rattle.ref_model.specs.LocalRows.{most_frames, has_local_call, frames_called, static_called, local_act, row, rows}
use Rattle.frame_soundness.specs.Typed.{Typed}
use Rattle.frame_soundness.specs.LocalLaws.{Goes, NamesStatic}
use Rattle.frame_soundness.proofs.FetchLaws.{fetched_is}
use Rattle.frame_soundness.proofs.LocalRowLaws.{row_is, row_goes, narrow_goes, wide_goes}
use Rattle.frame_soundness.proofs.ReturnLaws.{return_goes}
use Rattle.frame_soundness.proofs.CallLaws.{static_goes}

-- the frames that a row leaves are those of which that is known
kept_by : (w : World) (o : Option (List Frame)) (after : List Frame) → Goes w o → o ≡ Some after → Typed w after
kept_by w o after g e =
    let same : g.frames ≡ after = inside o g.frames after g.is e in subst (Typed w) same g.typed
  where
    inside : (o : Option (List Frame)) (a b : List Frame) → o ≡ Some a → o ≡ Some b → a ≡ b
    inside o a b x y = cc

not_none : {A : Type 0} (b : Bool) (o : Option A) (x : A) → (if b then None else o) ≡ Some x → b ≡ false
not_none true o x e = absurd cc
not_none false o x e = refl

not_else : {A : Type 0} (b : Bool) (o : Option A) (x : A) → (if b then o else None) ≡ Some x → (b ≡ true) × (o ≡ Some x)
not_else true o x e = (refl, e)
not_else false o x e = absurd cc

static_keeps : (w : World) (f : Frame) (below after : List Frame) (index : ℕ) (m : Named) → AreTyped w → NamesStatic w f
    → (t : Typed w (f ∷ below)) → row_of t.0.at.place.instruction ≡ invoke static index
    → named_method w t.0.at.place.instruction.resolution ≡ Some m → static_called w m f below ≡ Some after → Goes w (row w (f ∷ below))
static_keeps w f below after index m typed names t known named e =
    let call = not_else (has_local_call w m && nat_lt (length (f ∷ below)) most_frames) (frames_called w m f below) after e in
    let tests = and_true (has_local_call w m) (nat_lt (length (f ∷ below)) most_frames) call.0 in
    let n = argument_slots m.method.signature in
    let code = some_is (code_at w m.number) (λ c. callee m.number c n f.stack >>= λ g. Some (g ∷ caller f n ∷ below)) after call.1 in
    let flag = names t.0.at.place.instruction index m (fetched_is w f t.0.at) known named in
    static_goes w f below index m code.0 typed t known named flag code.1 tests.0 tests.1

act_goes : (w : World) (f : Frame) (below after : List Frame) → AreTyped w → NamesStatic w f → (t : Typed w (f ∷ below)) → (r : Row)
    → row_of t.0.at.place.instruction ≡ r → local_act w t.0.at.place.instruction r f below ≡ Some after → Goes w (row w (f ∷ below))
act_goes w f below after typed names t (local act) known e =
    let i = t.0.at.place.instruction in
    let m = some_is (acted act (contents f)) (λ m. moved f i.instr.next m >>= λ g. Some (g ∷ below)) after e in
    row_goes w f below act typed t known (nonzero_of act (contents f) m.0 m.1)
act_goes w f below after typed names t (constant index) known e = narrow_goes w f below index typed t known
act_goes w f below after typed names t (wide_constant index) known e = wide_goes w f below index typed t known
act_goes w f below after typed names t (returns kind) known e =
    return_goes w f below kind typed t known (not_none (is_left_openly w f below) (returned w kind f below) after e)
act_goes w f below after typed names t (invoke static index) known e =
    let m = some_is (named_method w t.0.at.place.instruction.resolution) (λ m. static_called w m f below) after e in
    static_keeps w f below after index m.0 typed names t known m.1 m.2
act_goes w f below after typed names t (invoke virtual index) known e = absurd cc
act_goes w f below after typed names t (invoke special index) known e = absurd cc
act_goes w f below after typed names t (invoke (interface count) index) known e = absurd cc
act_goes w f below after typed names t (invoke dynamic index) known e = absurd cc
act_goes w f below after typed names t (event ev) known e = absurd cc
act_goes w f below after typed names t refused known e = absurd cc

pub row_keeps : (w : World) (f : Frame) (below after : List Frame) → AreTyped w → NamesStatic w f → Typed w (f ∷ below)
    → row w (f ∷ below) ≡ Some after → Typed w after
row_keeps w f below after typed names t e =
    let i = t.0.at.place.instruction in
    let act = local_act w i (row_of i) f below in
    let here = row_is w f below t.0.at (row_of i) act refl refl in
    kept_by w (row w (f ∷ below)) after (act_goes w f below after typed names t (row_of i) refl (sym here ∙ e)) e

next_keeps : (w : World) (frames after : List Frame) → AreTyped w → ((f : Frame) → NamesStatic w f) → Typed w frames
    → row w frames ≡ Some after → Typed w after
next_keeps w [] after typed names t e = absurd t
next_keeps w (f ∷ below) after typed names t e = row_keeps w f below after typed (names f) t e

pub rows_keep : (w : World) (n : ℕ) (frames after : List Frame) → AreTyped w → ((f : Frame) → NamesStatic w f) → Typed w frames
    → rows w n frames ≡ Some after → Typed w after
rows_keep w zero frames after typed names t e = subst (Typed w) (inside frames after e) t
  where
    inside : (a b : List Frame) → ◌≡◌ {A = Option (List Frame)} (Some a) (Some b) → a ≡ b
    inside a b same = cc
rows_keep w (suc n) frames after typed names t e =
    let mid = some_is (rows w n frames) (row w) after e in
    next_keeps w mid.0 after typed names (rows_keep w n frames mid.0 typed names t mid.1) mid.2
