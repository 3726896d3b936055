-- States with the local variables of a frame of the map.
use Rattle.std.proofs.Common.{◌≡◌, ℕ, suc, Bool, true, false, cond, eqb, List, [], ◌∷◌, length, Option, Some, None, Ok, refl, ap, sym, subst, ◌∙◌, arith}
use Rattle.std.proofs.lemmas.Bool.{eqb-true}
use Rattle.std.specs.Prelude.{◌&&◌, ◌||◌, not, reverse, is_some, IfSome}
use Rattle.std.specs.List.{All}
use Rattle.std.specs.Option.{option_map, option_map_or}
use Rattle.items.specs.Options.{◌>>=◌}
use Rattle.stack_maps.specs.declared.types.FrameTypes.{FrameTypes}
use Rattle.stack_maps.specs.declared.types.VType.{VType}
use Rattle.instruction_rows.specs.Contents.{slot_types}
use Rattle.type_paths.specs.Paths.{Path, path, types_on}
use Rattle.link_model.specs.World.{World}
use Rattle.verify_types.specs.Assignability.{assignable}
use Rattle.verify_types.specs.Effects.{state_after}
use Rattle.verify_types.specs.Environment.{Instruction, MapFrame, Environment, map_at}
use Rattle.verify_types.specs.Handlers.{are_satisfied, fits_frame}
use Rattle.verify_types.specs.TypeStates.{TypeState, all_assignable, fits, with_stack}
use Rattle.verify_instructions.proofs.Lists.{pointwise_reverse}
use Rattle.verify_frames.specs.declared.frame.Frame.{Frame}
use Rattle.verify_frames.specs.declared.frame_paths.Entry.{Entry}
use Rattle.verify_frames.specs.declared.known_state.Fitted.{Fitted}
use Rattle.verify_frames.specs.declared.known_state.KnownState.{KnownState}
use Rattle.verify_frames.specs.FramePaths.{entry_in, frame_types, state_where}
use Rattle.verify_frames.specs.Frames.{frame_at, frame_in}
use Rattle.verify_frames.specs.Takes.{Takes}
use Rattle.verify_frames.specs.declared.overwritten.Like.{Like}
use Rattle.verify_frames.specs.declared.overwritten.Overwritten.{Overwritten}
use Rattle.verify_instructions.specs.Views.{state_in}
use Rattle.verify_instructions.specs.declared.state.State.{State}
use Rattle.verify_frames.specs.declared.watch.Watch.{Watch}
use Rattle.verify_frames.specs.Watches.{Watches}
use Rattle.verify_frames.specs.Overwrites.{type_at, AreBut, IsRestored, NotedBehind, are_assignable, overwritten_since}
use Rattle.verify_frames.specs.Overwrites.NotedBehind.{leaves, stores, objects}
use Rattle.verify_frames.specs.KnownStates.{AllFit, AllHold, AreBehind, Compares, FitAll, FitsBut, FitsLocals, Holds, IsJudged, IsLike, IsOver, IsShared, IsStored, KnownAfter, MayBeLike, MayFit, Spares, if_going, stored_by, type_state, written_by}
use Rattle.verify_frames.specs.KnownStates.KnownAfter.{nothing, changed, kept}
use Rattle.verify_frames.proofs.OverwriteLaws.{all_by_number, fits_but, one_by_one, none_left, none_noted, objects_noted}
use Rattle.verify_frames.proofs.StoreLaws.{after_stored}
use Rattle.verify_frames.specs.declared.known_state.Judged.{Judged}
use Rattle.verify_frames.specs.declared.watch.Watch.TheVariants as kinds
use Rattle.verify_frames.specs.declared.known_state.Stored.{Stored}
use Rattle.verify_frames.specs.declared.known_state.Written.{Written}
use Rattle.verify_frames.specs.declared.known_state.Written.TheVariants as writes
use Rattle.verify_instructions.specs.Unfinished.{is_listed}
use Rattle.verify_frames.proofs.KeepLaws.{after_kept}
use Rattle.verify_frames.proofs.FinishLaws.{after_finished}
use Rattle.verify_frames.proofs.NearLaws.{as_many_fit}
use Rattle.verify_frames.proofs.WatchLaws.{but_objects, same_locals}
use Rattle.verify_frames.proofs.ItselfLaws.{LocalsThemselves}

-- ---- states with the same local variables and the same flag

abbrev over : List VType → Bool → TypeState
over locals flag = record { types = record { locals = locals; stack = [] }; this_uninit = flag }

same_at : (env : Environment) (pc : ℕ) (s t : TypeState) → s.types.locals ≡ t.types.locals → s.this_uninit ≡ t.this_uninit → are_satisfied env pc s ≡ are_satisfied env pc t
same_at env pc s t locals flag =
    ap (λ ls. are_satisfied env pc (over ls s.this_uninit)) locals ∙ ap (λ b. are_satisfied env pc (over t.types.locals b)) flag

pub judged_same : (env : Environment) (s t : TypeState) (o : Option Judged) → s.types.locals ≡ t.types.locals → s.this_uninit ≡ t.this_uninit → IfSome o (IsJudged env s) → IfSome o (IsJudged env t)
judged_same env s t None locals flag h = tt
judged_same env s t (Some j) locals flag h = record {
  at = sym (same_at env j.at s t locals flag) ∙ h.at;
  on = λ pc low high. sym (same_at env pc s t locals flag) ∙ h.on pc low high;
}

-- ---- frames with the same local variables

over_other : (constructor : Bool) (max : ℕ) (ls a b : Option (List VType)) (t : TypeState)
    → option_map (state_where constructor max) (ls >>= λ us. a >>= λ ss. Some (record { locals = us; stack = ss })) ≡ Some t
    → option_map (state_where constructor max) (ls >>= λ us. b >>= λ ss. Some (record { locals = us; stack = ss })) ≡ option_map (λ ss. with_stack t (reverse (slot_types ss))) b
over_other constructor max None a b t e = absurd cc
over_other constructor max (Some ls) None b t e = absurd cc
over_other constructor max (Some ls) (Some ss) None t e = refl
over_other constructor max (Some ls) (Some ss) (Some us) t e =
    let same : state_where constructor max (record { locals = ls; stack = ss }) ≡ t = cc in
    ap (λ x. Some (with_stack x (reverse (slot_types us)))) same

pub state_found : (f g : MapFrame) (o : Option MapFrame) (t : TypeState) → o ≡ Some f → o ≡ Some g → g.state ≡ Some t → f.state ≡ Some t
state_found f g o t at there is =
    let same : f ≡ g = cc in
    ap (λ (x : MapFrame). x.state) same ∙ is

pub entry_over : (ps : List Path) (constructor : Bool) (max : ℕ) (a b : Entry) (t : TypeState) → b.locals ≡ a.locals → (entry_in ps constructor max a).state ≡ Some t
    → (entry_in ps constructor max b).state ≡ option_map (λ ss. with_stack t (reverse (slot_types ss))) (types_on (path ps b.stack))
entry_over ps constructor max a b t same e =
    ap (λ n. option_map (state_where constructor max) (types_on (path ps n) >>= λ us. types_on (path ps b.stack) >>= λ ss. Some (record { locals = us; stack = ss }))) same
    ∙ over_other constructor max (types_on (path ps a.locals)) (types_on (path ps a.stack)) (types_on (path ps b.stack)) t e

-- ---- the frame over a state

same_over : (s t : TypeState) (stack : List VType) → t.types.locals ≡ s.types.locals → t.this_uninit ≡ s.this_uninit → with_stack t stack ≡ with_stack s stack
same_over s t stack locals flag =
    ap (λ ls. record { types = record { locals = ls; stack = stack }; this_uninit = t.this_uninit }) locals
    ∙ ap (λ b. record { types = record { locals = s.types.locals; stack = stack }; this_uninit = b }) flag

all_over : (s t : TypeState) (o : Option (List VType)) → t.types.locals ≡ s.types.locals → t.this_uninit ≡ s.this_uninit
    → option_map (λ ss. with_stack t (reverse (slot_types ss))) o ≡ option_map (λ ss. with_stack s (reverse (slot_types ss))) o
all_over s t None locals flag = refl
all_over s t (Some ss) locals flag = ap Some (same_over s t (reverse (slot_types ss)) locals flag)

like_itself : (env : Environment) (o : Option MapFrame) (f : MapFrame) (t : TypeState) → IfSome o (LocalsThemselves env.world) → o ≡ Some f → f.state ≡ Some t → all_assignable env.world t.types.locals t.types.locals ≡ true
like_itself env o f t h at is =
    let known = subst (λ (x : Option MapFrame). IfSome x (LocalsThemselves env.world)) at h in
    subst (λ (x : Option TypeState). IfSome x (λ (u : TypeState). all_assignable env.world u.types.locals u.types.locals ≡ true)) is known

over_from : (env : Environment) (fs : List MapFrame) (like pc : ℕ) (os : List Overwritten) (s : TypeState) (f : Frame) → fs ≡ env.map → IfSome (map_at env like) (LocalsThemselves env.world) → IsLike env like os s → IsShared fs like pc f
    → IsOver env os s pc f
over_from env fs like pc os s f same themselves l h = record {
  before = l.state;
  at = ap (λ ms. frame_at pc ms) (sym same) ∙ h.at;
  over = h.over l.frame l.state (ap (λ ms. frame_at like ms) same ∙ l.at) l.is;
  itself = like_itself env (map_at env like) l.frame l.state themselves l.at l.is;
  but = l.but;
  flag = l.flag;
}

over_one : (env : Environment) (fs : List MapFrame) (like pc : ℕ) (os : List Overwritten) (s : TypeState) (r : Option Frame) → fs ≡ env.map → IfSome (map_at env like) (LocalsThemselves env.world) → IsLike env like os s → IfSome r (IsShared fs like pc)
    → IfSome r (IsOver env os s pc)
over_one env fs like pc os s None same themselves l h = tt
over_one env fs like pc os s (Some f) same themselves l h = over_from env fs like pc os s f same themselves l h

pub over_some : (env : Environment) (fs : List MapFrame) (like : Option Like) (l : Like) (pc : ℕ) (s : TypeState) (r : Option Frame) → fs ≡ env.map → IfSome (map_at env l.pc) (LocalsThemselves env.world) → MayBeLike env like s → like ≡ Some l
    → IfSome r (IsShared fs l.pc pc) → IfSome r (IsOver env (overwritten_since like) s pc)
over_some env fs like l pc s r same themselves may is h =
    subst (λ (o : Option Like). IfSome r (IsOver env (overwritten_since o) s pc)) (sym is) (over_one env fs l.pc pc l.overwritten.items s r same themselves (may l is) h)

-- ---- states that fit it

with_flag : (fit flag : Bool) → flag ≡ true → fit ≡ (fit && flag)
with_flag true true e = refl
with_flag true false e = absurd cc
with_flag false flag e = refl

stack_alone : (w : World) (s before : TypeState) (slots : List VType) (locals_fit : Bool) (o : Option (List VType)) → s.types.stack ≡ reverse slots → locals_fit ≡ all_assignable w s.types.locals before.types.locals
    → (not s.this_uninit || before.this_uninit) ≡ true
    → option_map_or (λ ss. locals_fit && all_assignable w slots (slot_types ss)) o true ≡ option_map_or (fits w s) (option_map (λ ss. with_stack before (reverse (slot_types ss))) o) true
stack_alone w s before slots locals_fit None e fit flag = refl
stack_alone w s before slots locals_fit (Some ss) e fit flag =
    ap (λ a. a && all_assignable w slots (slot_types ss)) fit
    ∙ ap (λ b. all_assignable w s.types.locals before.types.locals && b) (sym (pointwise_reverse (assignable w) slots (slot_types ss)) ∙ ap (λ st. all_assignable w st (reverse (slot_types ss))) (sym e))
    ∙ with_flag (all_assignable w s.types.locals before.types.locals && all_assignable w s.types.stack (reverse (slot_types ss))) (not s.this_uninit || before.this_uninit) flag

pub fits_compared : (env : Environment) (w : World) (s : TypeState) (pc : ℕ) (f : Frame) (slots : List VType) (locals_fit other : Bool) → w ≡ env.world → Compares env s pc f locals_fit
    → option_map_or (λ ss. locals_fit && all_assignable w slots (slot_types ss)) (types_on (path f.paths.now f.entry.stack)) true ≡ option_map_or (fits_frame env (with_stack s (reverse slots))) (map_at env pc) other
fits_compared env w s pc f slots locals_fit other same h =
    ap (λ v. option_map_or (λ ss. locals_fit && all_assignable v slots (slot_types ss)) (types_on (path f.paths.now f.entry.stack)) true) same
    ∙ stack_alone env.world (with_stack s (reverse slots)) h.before slots locals_fit (types_on (path f.paths.now f.entry.stack)) refl h.fit h.flag
    ∙ ap (λ o. option_map_or (fits env.world (with_stack s (reverse slots))) o true) (sym h.over)
    ∙ ap (λ o. option_map_or (fits_frame env (with_stack s (reverse slots))) o other) (sym h.at)

same_flag : (u v : Bool) → v ≡ u → (not u || v) ≡ true
same_flag true true e = refl
same_flag true false e = absurd cc
same_flag false v e = refl

pub fits_over : (env : Environment) (w : World) (os : List Overwritten) (s : TypeState) (pc : ℕ) (f : Frame) (slots : List VType) (locals_fit other : Bool) → w ≡ env.world → IsOver env os s pc f → locals_fit ≡ are_assignable env.world os s.types.locals
    → option_map_or (λ ss. locals_fit && all_assignable w slots (slot_types ss)) (types_on (path f.paths.now f.entry.stack)) true ≡ option_map_or (fits_frame env (with_stack s (reverse slots))) (map_at env pc) other
fits_over env w os s pc f slots locals_fit other same h fit =
    fits_compared env w s pc f slots locals_fit other same (record {
      before = h.before;
      at = h.at;
      over = h.over;
      fit = fit ∙ fits_but env.world os h.before.types.locals s.types.locals h.but h.itself;
      flag = same_flag s.this_uninit h.before.this_uninit h.flag;
    })

compares_one : (env : Environment) (fs : List MapFrame) (other pc : ℕ) (s : TypeState) (r : Option Frame) → fs ≡ env.map → FitsLocals env s other → IfSome r (IsShared fs other pc) → IfSome r (λ f. Compares env s pc f true)
compares_one env fs other pc s None same h shared = tt
compares_one env fs other pc s (Some f) same h shared = record {
  before = h.state;
  at = ap (λ ms. frame_at pc ms) (sym same) ∙ shared.at;
  over = shared.over h.frame h.state (ap (λ ms. frame_at other ms) same ∙ h.at) h.is;
  fit = sym h.locals;
  flag = h.flag;
}

pub compares_some : (env : Environment) (fs : List MapFrame) (fitted : Option ℕ) (other pc : ℕ) (s : TypeState) (r : Option Frame) → fs ≡ env.map → MayFit env s fitted → fitted ≡ Some other → IfSome r (IsShared fs other pc)
    → IfSome r (λ f. Compares env s pc f true)
compares_some env fs fitted other pc s r same h is shared =
    compares_one env fs other pc s r same (subst (λ (o : Option ℕ). IfSome o (FitsLocals env s)) is h) shared

pub compared_to : (env : Environment) (s : TypeState) (pc : ℕ) (o : Option Frame) (f : Frame) → IfSome o (λ x. Compares env s pc x true) → o ≡ Some f → Compares env s pc f true
compared_to env s pc o f h is = subst (λ (x : Option Frame). IfSome x (λ y. Compares env s pc y true)) is h

-- ---- a frame that a state fits

first_two : (a b c : Bool) → ((a && b) && c) ≡ true → (a ≡ true) × (c ≡ true)
first_two true true true e = (refl, refl)
first_two true true false e = absurd cc
first_two true false c e = absurd cc
first_two false b c e = absurd cc

known_state : (constructor : Bool) (max : ℕ) (o : Option FrameTypes) → is_some o ≡ true → is_some (option_map (state_where constructor max) o) ≡ true
known_state constructor max None e = absurd cc
known_state constructor max (Some ts) e = refl

fits_known : (env : Environment) (s : TypeState) (pc : ℕ) (f : MapFrame) (q : Option TypeState) → map_at env pc ≡ Some f → f.state ≡ q → is_some q ≡ true → option_map_or (fits env.world s) q true ≡ true → FitsLocals env s pc
fits_known env s pc f None at is some e = absurd cc
fits_known env s pc f (Some t) at is some e =
    let parts = first_two (all_assignable env.world s.types.locals t.types.locals) (all_assignable env.world s.types.stack t.types.stack) (not s.this_uninit || t.this_uninit) e in
    record { frame = f; state = t; at = at; is = is; locals = parts.0; flag = parts.1 }

pub fitted_now : (env : Environment) (s : TypeState) (pc : ℕ) (f : Frame) → map_at env pc ≡ Some (frame_in f)
    → is_some (frame_types (path f.paths.now f.entry.locals) (path f.paths.now f.entry.stack)) ≡ true → option_map_or (fits_frame env s) (map_at env pc) true ≡ true → FitsLocals env s pc
fitted_now env s pc f at some e =
    fits_known env s pc (frame_in f) (frame_in f).state at refl
    (known_state f.is_constructor f.max_locals (frame_types (path f.paths.now f.entry.locals) (path f.paths.now f.entry.stack)) some)
    (ap (λ o. option_map_or (fits_frame env s) o true) (sym at) ∙ e)

-- ---- the state that takes over local variables

taken : (s : TypeState) (o : Option (List VType)) (v : Option (List VType)) → v ≡ option_map slot_types o → option_map (λ st. with_stack s (reverse st)) v ≡ option_map (λ ss. with_stack s (reverse (slot_types ss))) o
taken s None None e = refl
taken s None (Some st) e = absurd cc
taken s (Some ss) None e = absurd cc
taken s (Some ss) (Some st) e = let same : st ≡ slot_types ss = cc in ap (λ x. Some (with_stack s (reverse x))) same

pub taken_over : (env : Environment) (os : List Overwritten) (s restored : TypeState) (pc : ℕ) (f : Frame) (there : MapFrame) (v : Option (List VType)) → map_at env pc ≡ Some there → IsOver env os s pc f → IsRestored os s restored
    → v ≡ option_map slot_types (types_on (path f.paths.now f.entry.stack)) → option_map (λ st. with_stack restored (reverse st)) v ≡ there.state
taken_over env os s restored pc f there v at h r e =
    let same : frame_in f ≡ there = some_is (frame_in f) there (sym h.at ∙ at) in
    let stack = types_on (path f.paths.now f.entry.stack) in
    taken restored stack v e
    ∙ sym (all_over restored h.before stack (sym (r.locals h.before.types.locals h.but)) (h.flag ∙ sym r.flag))
    ∙ sym h.over
    ∙ ap (λ (x : MapFrame). x.state) same
  where
    some_is : (a b : MapFrame) → Some a ≡ Some b → a ≡ b
    some_is a b e = cc

-- ---- what is known of states

like_at : (env : Environment) (pc : ℕ) (f : MapFrame) (s : TypeState) → map_at env pc ≡ Some f → f.state ≡ Some s → IsLike env pc [] s
like_at env pc f s at is = record { frame = f; state = s; at = at; is = is; but = none_noted s.types.locals; flag = refl }

like_after : (env : Environment) (i : Instruction) (like : Option Like) (l : Like) (s after : TypeState) → MayBeLike env like s → s.this_uninit ≡ after.this_uninit → state_after env i s ≡ Ok after → NotedBehind i.instr.op s.types.locals like l
    → IsLike env l.pc l.overwritten.items after
like_after env i like l s after holds flag h (leaves keeps is) =
    let b = holds l is in
    let same = after_kept env i s after keeps h in
    record { frame = b.frame; state = b.state; at = b.at; is = b.is; but = subst (λ ls. AreBut l.overwritten.items b.state.types.locals ls) same.locals b.but; flag = b.flag ∙ flag }
like_after env i like l s after holds flag h (stores kind n before op is now) =
    let b = holds before is in
    let stored = after_stored env i kind n s after op h in
    record {
      frame = b.frame;
      state = b.state;
      at = ap (λ pc. map_at env pc) now.at ∙ b.at;
      is = b.is;
      but = subst (λ os. AreBut os b.state.types.locals after.types.locals) (sym now.noted) (stored.but before.overwritten.items b.state.types.locals b.but);
      flag = b.flag ∙ flag;
    }
like_after env i like l s after holds flag h (objects before op is now) =
    let b = holds before is in
    let done = after_finished env i s after op h in
    record {
      frame = b.frame;
      state = b.state;
      at = ap (λ pc. map_at env pc) now.noted.at ∙ b.at;
      is = b.is;
      but =
          subst (λ os. AreBut os b.state.types.locals after.types.locals) (sym now.noted.noted)
          (objects_noted s.types.locals b.state.types.locals after.types.locals now.slots before.overwritten.items now.listed b.but done.as_many done.same);
      flag = b.flag ∙ flag;
    }

-- a frame that local variables fitted before some were written, and did so but for some already
but_behind : (env : Environment) (s t : TypeState) (slots now : List ℕ) (pc : ℕ) → length s.types.locals ≡ length t.types.locals → s.this_uninit ≡ t.this_uninit → ((i : ℕ) → is_listed now i ≡ false → is_listed slots i ≡ false)
    → ((i : ℕ) → is_listed now i ≡ false → type_at s.types.locals i ≡ type_at t.types.locals i) → FitsBut env slots s pc → FitsBut env now t pc
but_behind env s t slots now pc as_many flag keeps same h = record {
  frame = h.frame;
  state = h.state;
  at = h.at;
  is = h.is;
  as_many = sym as_many ∙ h.as_many;
  kept = λ i e. subst (λ (x : VType). assignable env.world x (type_at h.state.types.locals i) ≡ true) (same i e) (h.kept i (keeps i e));
  flag = ap (λ b. not b || h.state.this_uninit) (sym flag) ∙ h.flag;
}

all_same : (env : Environment) (s t : TypeState) (f : Fitted) → s.types.locals ≡ t.types.locals → s.this_uninit ≡ t.this_uninit → AllFit env s f → AllFit env t f
all_same env s t f locals flag h = λ k d low.
    but_behind env s t f.changed.items f.changed.items _ (ap (λ (ls : List VType). length ls) locals) flag (λ i e. e) (λ i e. ap (λ (ls : List VType). type_at ls i) locals) (h k d low)

-- a frame that local variables fit, they fit but for some
pub fits_weaker : (env : Environment) (slots : List ℕ) (s : TypeState) (pc : ℕ) → FitsLocals env s pc → FitsBut env slots s pc
fits_weaker env slots s pc h = record {
  frame = h.frame;
  state = h.state;
  at = h.at;
  is = h.is;
  as_many = as_many_fit env.world s.types.locals h.state.types.locals h.locals;
  kept = λ i e. one_by_one env.world s.types.locals h.state.types.locals h.locals i;
  flag = h.flag;
}

-- ---- what was written

record Changes (x : Written) (s after : TypeState) : Type 0 where
  as_many : length s.types.locals ≡ length after.types.locals
  others : (i : ℕ) → Spares x i → type_at s.types.locals i ≡ type_at after.types.locals i

written_change : (env : Environment) (i : Instruction) (s after : TypeState) (watch : Watch) (x : Written) → Watches i.instr.op s.types.locals watch → written_by watch ≡ Some x → state_after env i s ≡ Ok after → Changes x s after
written_change env i s after kinds.Kept x h is e = absurd cc
written_change env i s after kinds.Changed x h is e = absurd cc
written_change env i s after (kinds.Store n was) x h is e =
    let stored = after_stored env i h.0.kind n s after h.0.is e in
    let same : writes.Store n ≡ x = cc in
    subst (λ (y : Written). Changes y s after) same (record { as_many = stored.as_many; others = λ k away. stored.others k away.0 away.1 away.2 })
written_change env i s after (kinds.Objects os) x h is e =
    let but = but_objects env i s after os.items h.0 h.1 e in
    let same : writes.Objects os ≡ x = cc in
    subst (λ (y : Written). Changes y s after) same (record { as_many = but.as_many; others = but.kept })

fitted_after : (env : Environment) (i : Instruction) (s after : TypeState) (watch : Watch) (fitted now : Option Fitted) → Watches i.instr.op s.types.locals watch → state_after env i s ≡ Ok after → s.this_uninit ≡ after.this_uninit
    → IfSome now (AreBehind (written_by watch) fitted) → FitAll env s fitted → FitAll env after now
fitted_after env i s after watch fitted None h e flag behind all = tt
fitted_after env i s after watch fitted (Some f) h e flag behind all =
    let change = written_change env i s after watch behind.written h behind.is e in
    let before : AllFit env s behind.before = subst (λ (o : Option Fitted). FitAll env s o) behind.was all in
    let they : All (FitsBut env behind.before.changed.items s) f.pcs.items = subst (λ (ps : List ℕ). All (FitsBut env behind.before.changed.items s) ps) (sym behind.pcs) before in
    λ k d low. but_behind env s after behind.before.changed.items f.changed.items _ change.as_many flag behind.kept (λ j free. change.others j (behind.others j free)) (they k d low)

pub fits_same : (env : Environment) (s t : TypeState) (o : Option Fitted) → s.types.locals ≡ t.types.locals → s.this_uninit ≡ t.this_uninit → FitAll env s o → FitAll env t o
fits_same env s t None locals flag h = tt
fits_same env s t (Some f) locals flag h = all_same env s t f locals flag h

-- a store of this instruction
stored_after : (env : Environment) (i : Instruction) (s after : TypeState) (watch : Watch) (o : Option Judged) → Watches i.instr.op s.types.locals watch → state_after env i s ≡ Ok after → s.this_uninit ≡ after.this_uninit
    → IfSome o (IsJudged env s) → IfSome (stored_by watch o) (IsStored env after)
stored_after env i s after watch None h e flag j = tt
stored_after env i s after kinds.Kept (Some x) h e flag j = tt
stored_after env i s after kinds.Changed (Some x) h e flag j = tt
stored_after env i s after (kinds.Store n was) (Some x) h e flag j =
    let stored = after_stored env i h.0.kind n s after h.0.is e in
    record { before = s; judged = j; as_many = stored.as_many; others = λ k away. stored.others k away.0 away.1 away.2; flag = flag }
stored_after env i s after (kinds.Objects os) (Some x) h e flag j =
    let but = but_objects env i s after os.items h.0 h.1 e in
    record { before = s; judged = j; as_many = but.as_many; others = but.kept; flag = flag }

-- what is known of the state after an instruction is true of it
pub holds_after : (env : Environment) (i : Instruction) (s after : KnownState) (like : Option Like) (watch : Watch) (now : State) → Holds env s → state_after env i (type_state s) ≡ Ok (state_in now)
    → IfSome like (NotedBehind i.instr.op (type_state s).types.locals s.like) → Watches i.instr.op (type_state s).types.locals watch → KnownAfter (type_state s).this_uninit watch like s.judged s.fitted now after
    → (state_after env i (type_state s) ≡ Ok (type_state after)) × Holds env after
holds_after env i s after like watch now holds h noted watches (nothing e) =
    subst (λ (x : KnownState). (state_after env i (type_state s) ≡ Ok (type_state x)) × Holds env x) (sym e) (h, record { like = λ l is. absurd cc; judged = tt; stored = tt; fitted = tt })
holds_after env i s after like watch now holds h noted watches (changed fitted flag behind e) =
    subst (λ (x : KnownState). (state_after env i (type_state s) ≡ Ok (type_state x)) × Holds env x) (sym e) (
      h,
      record {
        like = λ l is. like_after env i s.like l (type_state s) (state_in now) holds.like (sym flag) h (subst (λ (o : Option Like). IfSome o (NotedBehind i.instr.op (type_state s).types.locals s.like)) is noted);
        judged = tt;
        stored = stored_after env i (type_state s) (state_in now) watch s.judged watches h (sym flag) holds.judged;
        fitted = fitted_after env i (type_state s) (state_in now) watch s.fitted fitted watches h (sym flag) behind holds.fitted;
      },
    )
holds_after env i s after like watch now holds h noted watches (kept flag shows e) =
    let same = same_locals env i (type_state s) (state_in now) watch watches shows h in
    subst (λ (x : KnownState). (state_after env i (type_state s) ≡ Ok (type_state x)) × Holds env x) (sym e) (
      h,
      record {
        like = λ l is. like_after env i s.like l (type_state s) (state_in now) holds.like (sym flag) h (subst (λ (o : Option Like). IfSome o (NotedBehind i.instr.op (type_state s).types.locals s.like)) is noted);
        judged = judged_same env (type_state s) (state_in now) s.judged same (sym flag) holds.judged;
        stored = tt;
        fitted = fits_same env (type_state s) (state_in now) s.fitted same (sym flag) holds.fitted;
      },
    )

pub none_hold : (env : Environment) → AllHold env None
none_hold env = λ s e. absurd cc

pub one_holds : (env : Environment) (s : KnownState) → Holds env s → AllHold env (Some s)
one_holds env s h = λ t e. let same : s ≡ t = cc in subst (λ (x : KnownState). Holds env x) same h

like_new : (env : Environment) (pc : ℕ) (l other : Like) (s : TypeState) → IsLike env pc [] s → l.pc ≡ pc → l.overwritten.items ≡ [] → Some l ≡ Some other → IsLike env other.pc other.overwritten.items s
like_new env pc l other s h at none e =
    let same : l ≡ other = cc in
    let here : IsLike env l.pc [] s = subst (λ (n : ℕ). IsLike env n [] s) (sym at) h in
    let noted : IsLike env l.pc l.overwritten.items s = subst (λ (os : List Overwritten). IsLike env l.pc os s) (sym none) here in
    subst (λ (x : Like). IsLike env x.pc x.overwritten.items s) same noted

pub new_holds : (env : Environment) (pc : ℕ) (f : MapFrame) (l : Like) (s : KnownState) → map_at env pc ≡ Some f → f.state ≡ Some (type_state s) → s.like ≡ Some l → l.pc ≡ pc → l.overwritten.items ≡ [] → IfSome s.judged (IsJudged env (type_state s)) → s.stored ≡ None → FitAll env (type_state s) s.fitted
    → AllHold env (Some s)
new_holds env pc f l s at is like new none judged stored fits = one_holds env s (record {
  like = λ other e. like_new env pc l other (type_state s) (like_at env pc f (type_state s) at is) new none (sym like ∙ e);
  judged = judged;
  stored = subst (λ (o : Option Stored). IfSome o (IsStored env (type_state s))) (sym stored) tt;
  fitted = fits;
})

-- the state of a frame over another state satisfies the handlers where that does
pub judged_over : (env : Environment) (os : List Overwritten) (s : TypeState) (pc : ℕ) (f : Frame) (there : MapFrame) (t : TypeState) (judged : Option Judged) → os ≡ [] → IsOver env os s pc f → map_at env pc ≡ Some there → there.state ≡ Some t
    → IfSome judged (IsJudged env s) → IfSome judged (IsJudged env t)
judged_over env os s pc f there t judged none h at is known =
    over_stack (types_on (path f.paths.now f.entry.stack)) (sym h.over ∙ state_found (frame_in f) there (map_at env pc) t h.at at is)
  where
    whole : s.types.locals ≡ h.before.types.locals
    whole = none_left h.before.types.locals s.types.locals (subst (λ (xs : List Overwritten). AreBut xs h.before.types.locals s.types.locals) none h.but)

    over_stack : (o : Option (List VType)) → option_map (λ ss. with_stack h.before (reverse (slot_types ss))) o ≡ Some t → IfSome judged (IsJudged env t)
    over_stack None e = absurd cc
    over_stack (Some ss) e =
        let same : with_stack h.before (reverse (slot_types ss)) ≡ t = cc in
        judged_same env s t judged (whole ∙ ap (λ (x : TypeState). x.types.locals) same) (sym h.flag ∙ ap (λ (x : TypeState). x.this_uninit) same) known

-- and so does it fit the frames
pub fitted_over : (env : Environment) (os : List Overwritten) (s : TypeState) (pc : ℕ) (f : Frame) (there : MapFrame) (t : TypeState) (fitted : Option Fitted) → os ≡ [] → IsOver env os s pc f → map_at env pc ≡ Some there → there.state ≡ Some t
    → FitAll env s fitted → FitAll env t fitted
fitted_over env os s pc f there t fitted none h at is known =
    let whole = none_left h.before.types.locals s.types.locals (subst (λ (xs : List Overwritten). AreBut xs h.before.types.locals s.types.locals) none h.but) in
    over_stack whole (types_on (path f.paths.now f.entry.stack)) (sym h.over ∙ state_found (frame_in f) there (map_at env pc) t h.at at is)
  where
    over_stack : s.types.locals ≡ h.before.types.locals → (o : Option (List VType)) → option_map (λ ss. with_stack h.before (reverse (slot_types ss))) o ≡ Some t → FitAll env t fitted
    over_stack whole None e = absurd cc
    over_stack whole (Some ss) e =
        let same : with_stack h.before (reverse (slot_types ss)) ≡ t = cc in
        fits_same env s t fitted (whole ∙ ap (λ (x : TypeState). x.types.locals) same) (sym h.flag ∙ ap (λ (x : TypeState). x.this_uninit) same) known

pub going_holds : (env : Environment) (known : Option KnownState) (goes_on : Bool) → AllHold env known → AllHold env (if_going known goes_on)
going_holds env known true h = h
going_holds env known false h = none_hold env

pub new_going : (s : KnownState) (goes_on : Bool) → option_map type_state (if_going (Some s) goes_on) ≡ cond goes_on (Some (type_state s)) None
new_going s true = refl
new_going s false = refl

-- ---- a frame that a state fits but for some local variables, which fit too

listed_one : (P : ℕ → Type 0) (slots : List ℕ) (i : ℕ) → is_listed slots i ≡ true → All P slots → P i
listed_one P [] i e all = absurd cc
listed_one P (n ∷ slots) i e all = by_test (eqb n i) refl e (λ more. listed_one P slots i more (λ k d low. all (suc k) d (omega arith)))
  where
    by_test : (b : Bool) → eqb n i ≡ b → (b || is_listed slots i) ≡ true → (is_listed slots i ≡ true → P i) → P i
    by_test true is e rest = subst P (eqb-true n i is) (all 0 n (omega arith))
    by_test false is e rest = rest e

pub fits_wholly : (env : Environment) (w : World) (fs : List MapFrame) (slots : List ℕ) (s : TypeState) (pc : ℕ) → w ≡ env.world → fs ≡ env.map → Takes w fs pc s.types.locals slots → FitsBut env slots s pc → FitsLocals env s pc
fits_wholly env w fs slots s pc of same takes h = record {
  frame = h.frame;
  state = h.state;
  at = h.at;
  is = h.is;
  locals = all_by_number env.world s.types.locals h.state.types.locals h.as_many (λ i. by_test i (is_listed slots i) refl);
  flag = h.flag;
}
  where
    by_test : (i : ℕ) (b : Bool) → is_listed slots i ≡ b → assignable env.world (type_at s.types.locals i) (type_at h.state.types.locals i) ≡ true
    by_test i true e =
        ap (λ (x : World). assignable x (type_at s.types.locals i) (type_at h.state.types.locals i)) (sym of)
        ∙ listed_one (λ k. assignable w (type_at s.types.locals k) (type_at h.state.types.locals k) ≡ true) slots i e (takes.each h.frame h.state (ap (λ ms. frame_at pc ms) same ∙ h.at) h.is)
    by_test i false e = h.kept i e
