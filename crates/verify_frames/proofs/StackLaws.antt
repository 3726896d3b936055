-- The operand stack of a frame, and its local variables apart from it.
use Rattle.std.proofs.Common.{◌≡◌, ℕ, Bool, true, List, [], ◌∷◌, Option, Some, None, refl, ap, sym, ◌∙◌}
use Rattle.std.specs.Prelude.{◌&&◌, reverse, is_some}
use Rattle.std.specs.Option.{option_map, option_map_or}
use Rattle.items.specs.Options.{◌>>=◌}
use Rattle.stack_maps.specs.declared.types.FrameTypes.{FrameTypes}
use Rattle.stack_maps.specs.declared.types.VType.{VType}
use Rattle.instruction_rows.specs.Contents.{slot_types}
use Rattle.type_paths.specs.Paths.{path, types_on}
use Rattle.link_model.specs.World.{World}
use Rattle.verify_types.specs.Assignability.{assignable}
use Rattle.verify_types.specs.Environment.{Environment, MapFrame, map_at}
use Rattle.verify_types.specs.TypeStates.{TypeState, all_assignable, with_stack}
use Rattle.verify_instructions.proofs.Lists.{pointwise_reverse}
use Rattle.verify_frames.specs.declared.frame.Frame.{Frame}
use Rattle.verify_frames.specs.FramePaths.{frame_types, state_where}
use Rattle.verify_frames.specs.Frames.{frame_at, frame_in}
use Rattle.verify_frames.specs.KnownStates.{IsShared, over_stack_of}
use Rattle.verify_frames.proofs.KnownStateLaws.{state_found}

-- a state has the local variables of another, and its flag
pub record HasLocals (t u : TypeState) : Type 0 where
  pub locals : t.types.locals ≡ u.types.locals
  pub flag : t.this_uninit ≡ u.this_uninit

over_stack : (t u : TypeState) (o : Option (List VType)) → option_map (λ ss. with_stack t (reverse (slot_types ss))) o ≡ Some u → HasLocals t u
over_stack t u None e = absurd cc
over_stack t u (Some ss) e =
    let same : with_stack t (reverse (slot_types ss)) ≡ u = cc in
    record { locals = ap (λ (x : TypeState). x.types.locals) same; flag = ap (λ (x : TypeState). x.this_uninit) same }

-- two frames that share them
pub shared_over : (env : Environment) (fs : List MapFrame) (one other : ℕ) (f : Frame) (g h : MapFrame) (t u : TypeState) → fs ≡ env.map → IsShared fs one other f → map_at env one ≡ Some g → g.state ≡ Some t → map_at env other ≡ Some h → h.state ≡ Some u → HasLocals t u
shared_over env fs one other f g h t u are shared at is there known =
    let here : map_at env other ≡ Some (frame_in f) = ap (λ ms. frame_at other ms) (sym are) ∙ shared.at in
    let over : (frame_in f).state ≡ over_stack_of f t = shared.over g t (ap (λ ms. frame_at one ms) are ∙ at) is in
    over_stack t u (types_on (path f.paths.now f.entry.stack)) (sym over ∙ state_found (frame_in f) h (map_at env other) u here there known)

-- a frame is known, and takes what is caught on its operand stack
pub record Takes (w : World) (caught : VType) (o : Option TypeState) : Type 0 where
  pub state : TypeState
  pub is : o ≡ Some state
  pub stack : all_assignable w (caught ∷ []) state.types.stack ≡ true

abbrev together : Option (List VType) → Option (List VType) → Option FrameTypes
together a b = a >>= λ ls. b >>= λ ss. Some (record { locals = ls; stack = ss })

takes : (w : World) (caught : VType) (constructor : Bool) (max : ℕ) (a b : Option (List VType)) → is_some (together a b) ≡ true
    → option_map_or (λ ss. true && all_assignable w (caught ∷ []) (slot_types ss)) b true ≡ true → Takes w caught (option_map (state_where constructor max) (together a b))
takes w caught constructor max None b known fit = absurd cc
takes w caught constructor max (Some ls) None known fit = absurd cc
takes w caught constructor max (Some ls) (Some ss) known fit = record {
  state = state_where constructor max (record { locals = ls; stack = ss });
  is = refl;
  stack = pointwise_reverse (assignable w) (caught ∷ []) (slot_types ss) ∙ fit;
}

pub takes_on : (w : World) (caught : VType) (f : Frame) → is_some (frame_types (path f.paths.now f.entry.locals) (path f.paths.now f.entry.stack)) ≡ true
    → option_map_or (λ ss. true && all_assignable w (caught ∷ []) (slot_types ss)) (types_on (path f.paths.now f.entry.stack)) true ≡ true → Takes w caught (frame_in f).state
takes_on w caught f known fit = takes w caught f.is_constructor f.max_locals (types_on (path f.paths.now f.entry.locals)) (types_on (path f.paths.now f.entry.stack)) known fit
