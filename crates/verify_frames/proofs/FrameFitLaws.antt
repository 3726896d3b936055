-- States that fit a frame, and the state that it means.
use Rattle.std.proofs.Common.{◌≡◌, ℕ, Bool, true, false, List, [], ◌∷◌, ◌++◌, length, Option, Some, None, refl, ap, sym, ◌∙◌}
use Rattle.std.specs.Prelude.{◌&&◌, ◌||◌, not, reverse, is_some, IfSome}
use Rattle.std.specs.List.{list_any}
use Rattle.std.specs.Option.{option_map, option_map_or}
use Rattle.std.proofs.lemmas.List.Folds.{list_any-append}
use Rattle.items.specs.Options.{◌>>=◌}
use Rattle.stack_maps.specs.declared.types.VType.{VType}
use Rattle.stack_maps.specs.declared.types.FrameTypes.{FrameTypes}
use Rattle.instruction_rows.specs.Contents.{slot_types}
use Rattle.type_paths.specs.Paths.{Path, types_on}
use Rattle.link_model.specs.World.{World}
use Rattle.verify_types.specs.Assignability.{assignable}
use Rattle.verify_types.specs.TypeStates.{all_assignable, fits, is_this, padded}
use Rattle.verify_instructions.proofs.Lists.{pointwise_reverse}
use Rattle.verify_frames.specs.FramePaths.{frame_types, state_where}
use Rattle.verify_frames.specs.PathFits.{fit_path, fit_locals, is_this_item, state_of_slots}

-- ---- types that are known

abbrev together : Option (List VType) → Option (List VType) → Option FrameTypes
together a b = a >>= λ ls. b >>= λ ss. Some (record { locals = ls; stack = ss })

known_together : (a b : Option (List VType)) → (is_some (option_map (λ ts. length (slot_types ts)) a) && is_some (option_map (λ ts. length (slot_types ts)) b)) ≡ is_some (together a b)
known_together None b = refl
known_together (Some ls) None = refl
known_together (Some ls) (Some ss) = refl

pub known : (p q : Path) → (is_some (option_map (λ ts. length (slot_types ts)) (types_on p)) && is_some (option_map (λ ts. length (slot_types ts)) (types_on q))) ≡ is_some (frame_types p q)
known p q = known_together (types_on p) (types_on q)

-- ---- the object whose constructor runs

pub this_on : (p : Path) → IfSome (types_on p) (λ ts. list_any is_this_item p ≡ list_any is_this ts)
this_on [] = refl
this_on (item ∷ q) = on_top item q (types_on q) (this_on q)
  where
    turned : (a b : Bool) → (a || b) ≡ (b || (a || false))
    turned true true = refl
    turned true false = refl
    turned false true = refl
    turned false false = refl

    on_top : (item : Option VType) (q : Path) (o : Option (List VType)) → IfSome o (λ ts. list_any is_this_item q ≡ list_any is_this ts)
        → IfSome (o >>= λ ts. item >>= λ u. Some (ts ++ u ∷ [])) (λ ts. list_any is_this_item (item ∷ q) ≡ list_any is_this ts)
    on_top item q None h = tt
    on_top None q (Some ts) h = tt
    on_top (Some u) q (Some ts) h =
        ap (λ b. is_this u || b) h ∙ turned (is_this u) (list_any is_this ts) ∙ sym (list_any-append is_this ts (u ∷ []))

-- ---- slots that fit

grouped : (a b c : Bool) → ((a && b) && c) ≡ (a && (b && c))
grouped true b c = refl
grouped false b c = refl

parts_together : (w : World) (constructor : Bool) (max : ℕ) (locals stack : List VType) (uninit this : Bool) (a b : Option (List VType)) → IfSome a (λ ts. this ≡ list_any is_this ts) → is_some (together a b) ≡ true
    → (option_map_or (λ ts. all_assignable w locals (padded max (slot_types ts))) a true && (option_map_or (λ ts. all_assignable w stack (slot_types ts)) b false && (not uninit || (constructor && this))))
    ≡ option_map_or (fits w (state_of_slots locals stack uninit)) (option_map (state_where constructor max) (together a b)) true
parts_together w constructor max locals stack uninit this None b h e = absurd cc
parts_together w constructor max locals stack uninit this (Some ls) None h e = absurd cc
parts_together w constructor max locals stack uninit this (Some ls) (Some ss) h e =
    ap (λ t. all_assignable w locals (padded max (slot_types ls)) && (all_assignable w stack (slot_types ss) && (not uninit || (constructor && t)))) h
    ∙ ap (λ b. all_assignable w locals (padded max (slot_types ls)) && (b && (not uninit || (constructor && list_any is_this ls)))) (sym (pointwise_reverse (assignable w) stack (slot_types ss)))
    ∙ sym (grouped (all_assignable w locals (padded max (slot_types ls))) (all_assignable w (reverse stack) (reverse (slot_types ss))) (not uninit || (constructor && list_any is_this ls)))

pub parts_fit : (w : World) (constructor : Bool) (max : ℕ) (locals stack : List VType) (uninit : Bool) (p q : Path) → is_some (frame_types p q) ≡ true
    → (fit_locals w max locals p && (fit_path w stack q && (not uninit || (constructor && list_any is_this_item p))))
    ≡ option_map_or (fits w (state_of_slots locals stack uninit)) (option_map (state_where constructor max) (frame_types p q)) true
parts_fit w constructor max locals stack uninit p q known =
    parts_together w constructor max locals stack uninit (list_any is_this_item p) (types_on p) (types_on q) (this_on p) known

not_judged : {A B : Type 0} (f : A → B) (test : B → Bool) (o : Option A) → is_some o ≡ false → true ≡ option_map_or test (option_map f o) true
not_judged f test None e = refl
not_judged f test (Some x) e = absurd cc

pub unknown_fits : (w : World) (constructor : Bool) (max : ℕ) (locals stack : List VType) (uninit : Bool) (p q : Path) → is_some (frame_types p q) ≡ false
    → true ≡ option_map_or (fits w (state_of_slots locals stack uninit)) (option_map (state_where constructor max) (frame_types p q)) true
unknown_fits w constructor max locals stack uninit p q e = not_judged (state_where constructor max) (fits w (state_of_slots locals stack uninit)) (frame_types p q) e

-- ---- the parts one after the other

abbrev Whole : World → Bool → ℕ → List VType → List VType → Bool → Path → Path → Bool
Whole w constructor max locals stack uninit p q = option_map_or (fits w (state_of_slots locals stack uninit)) (option_map (state_where constructor max) (frame_types p q)) true

never : (a : Bool) → (a && false) ≡ false
never true = refl
never false = refl

pub locals_differ : (w : World) (constructor : Bool) (max : ℕ) (locals stack : List VType) (uninit : Bool) (p q : Path) → is_some (frame_types p q) ≡ true → fit_locals w max locals p ≡ false
    → false ≡ Whole w constructor max locals stack uninit p q
locals_differ w constructor max locals stack uninit p q known e =
    ap (λ a. a && (fit_path w stack q && (not uninit || (constructor && list_any is_this_item p)))) (sym e) ∙ parts_fit w constructor max locals stack uninit p q known

pub stack_differs : (w : World) (constructor : Bool) (max : ℕ) (locals stack : List VType) (uninit : Bool) (p q : Path) → is_some (frame_types p q) ≡ true → fit_path w stack q ≡ false
    → false ≡ Whole w constructor max locals stack uninit p q
stack_differs w constructor max locals stack uninit p q known e =
    sym (never (fit_locals w max locals p))
    ∙ ap (λ b. fit_locals w max locals p && (b && (not uninit || (constructor && list_any is_this_item p)))) (sym e)
    ∙ parts_fit w constructor max locals stack uninit p q known

pub flag_left : (w : World) (constructor : Bool) (max : ℕ) (locals stack : List VType) (uninit : Bool) (p q : Path) → is_some (frame_types p q) ≡ true → fit_locals w max locals p ≡ true → fit_path w stack q ≡ true
    → (not uninit || (constructor && list_any is_this_item p)) ≡ Whole w constructor max locals stack uninit p q
flag_left w constructor max locals stack uninit p q known e f =
    ap (λ a. a && (true && (not uninit || (constructor && list_any is_this_item p)))) (sym e)
    ∙ ap (λ b. fit_locals w max locals p && (b && (not uninit || (constructor && list_any is_this_item p)))) (sym f)
    ∙ parts_fit w constructor max locals stack uninit p q known
