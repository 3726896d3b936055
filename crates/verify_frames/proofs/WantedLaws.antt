-- What is wanted of local variables, and the frames that want it.
use Rattle.std.proofs.Common.{◌≡◌, ◌⊎◌, inl, inr, ℕ, zero, suc, ◌-◌, ◌<◌, ◌≤◌, Bool, true, false, cond, ltb, eqb, List, [], ◌∷◌, ◌++◌, length, Option, Some, None, Result, Ok, Err, refl, ap, sym, subst, ◌∙◌, arith}
use Rattle.std.specs.Prelude.{IfOk, IfSome, MatchBool, get_or, map, not, replicate, ◌||◌}
use Rattle.std.specs.List.{All, list_all}
use Rattle.std.specs.Option.{option_map}
use Rattle.std.proofs.lemmas.Bool.{eqb-true, eqb-false, ltb-true, ltb-false, and_parts, and_from}
use Rattle.std.proofs.lemmas.List.{get_or_append_left}
use Rattle.items.specs.declared.no_memory.NoMemory.{NoMemory}
use Rattle.items.specs.Options.{◌>>=◌}
use Rattle.instruction_rows.specs.Contents.{is_wide, slot_types, types_of}
use Rattle.stack_maps.specs.declared.types.VType.{VType}
use Rattle.stack_maps.specs.declared.types.VType.TheVariants as types
use Rattle.type_paths.specs.Paths.{Path, count_on, path, types_on}
use Rattle.link_model.specs.World.{World}
use Rattle.verify_types.specs.Assignability.{assignable}
use Rattle.verify_types.specs.Environment.{MapFrame}
use Rattle.verify_types.specs.TypeStates.{TypeState, padded}
use Rattle.class_model.specs.declared.attribute.Row.{Row}
use Rattle.verify_frames.specs.declared.frame_paths.Entry.{Entry}
use Rattle.verify_frames.specs.Entries.{entry_at}
use Rattle.verify_frames.specs.FramePaths.{entry_in}
use Rattle.verify_frames.specs.Frames.{frame_at}
use Rattle.verify_frames.proofs.FrameLaws.{frame_found}
use Rattle.verify_frames.specs.declared.pc_sets.Span.{Span}
use Rattle.verify_frames.specs.declared.pc_sets.PcSet.{PcSet}
use Rattle.verify_frames.specs.declared.wanted.Want.{Want}
use Rattle.verify_frames.specs.declared.wanted.Wanted.{Wanted}
use Rattle.verify_frames.specs.Overwrites.{type_at}
use Rattle.verify_frames.specs.PcSets.{Covers, meet, meets, row_span}
use Rattle.verify_frames.specs.Wanted.{AreWanted, HasPcs, IsAsked, IsGathered, IsWantedAt, IsWantedOn, Serves, accepts, does_take, pcs_of, set_at}
use Rattle.verify_frames.proofs.NearLaws.{count_of, parts_of, slots_last, top_past, type_seam}

-- ---- one type

asked : (a b : Bool) → b ≡ true → (a || not b) ≡ true → a ≡ true
asked true b e h = refl
asked false true e h = absurd cc
asked false false e h = absurd cc

pub serves_one : (sets : List PcSet) (want : Want) (item : VType) (pcs : List Span) → Covers (set_at sets want.pcs) pcs → want.item ≡ item → Serves sets (want ∷ []) item pcs
serves_one sets want item pcs covers same = record {
  fits = λ w from until t at taken.
      subst (λ x. assignable w t x ≡ true) same
      (asked (assignable w t want.item) (meet (set_at sets want.pcs) from until) (covers.meet from until at) (and_parts (does_take w sets from until t want) true taken).0);
}

pub serves_all : (sets : List PcSet) (wants rest behind : List Want) (want : Want) (item : VType) (pcs : List Span) → ((test : Want → Bool) → list_all test wants ≡ true → list_all test rest ≡ true) → rest ≡ want ∷ behind
    → Serves sets (want ∷ []) item pcs → Serves sets wants item pcs
serves_all sets wants rest behind want item pcs left is h = record {
  fits = λ w from until t at taken.
      let all : list_all (does_take w sets from until t) (want ∷ behind) ≡ true = ap (list_all (does_take w sets from until t)) (sym is) ∙ left (does_take w sets from until t) taken in
      let here = and_parts (does_take w sets from until t want) (list_all (does_take w sets from until t) behind) all in
      h.fits w from until t at (and_from (does_take w sets from until t want) true here.0 refl);
}

-- ---- one node

no_pcs : (pcs : List Span) (from until : ℕ) → pcs ≡ [] → meet pcs from until ≡ true → ⊥
no_pcs pcs from until e h = let bad : meet [] from until ≡ true = ap (λ (ss : List Span). meet ss from until) (sym e) ∙ h in absurd cc

pub wanted_nowhere : (paths : List Path) (nodes : List ℕ) (wanted : Wanted) (n : ℕ) → pcs_of wanted.sets.items nodes n ≡ [] → IsWantedAt paths nodes wanted n
wanted_nowhere paths nodes wanted n e = record { each = λ from until h. absurd (no_pcs (pcs_of wanted.sets.items nodes n) from until e h) }

past_nodes : (sets : List PcSet) (nodes : List ℕ) (n : ℕ) → length nodes ≤ n → pcs_of sets nodes n ≡ []
past_nodes sets [] n high = refl
past_nodes sets (s ∷ nodes) zero high = absurd (omega arith)
past_nodes sets (s ∷ nodes) (suc n) high = past_nodes sets nodes n (omega arith)

pub wanted_everywhere : (paths : List Path) (nodes : List ℕ) (wanted : Wanted) → ((k : ℕ) → k < length nodes → IsWantedAt paths nodes wanted k) → AreWanted paths nodes wanted
wanted_everywhere paths nodes wanted h = record { each = λ n. by_test n (ltb n (length nodes)) refl }
  where
    by_test : (n : ℕ) (b : Bool) → ltb n (length nodes) ≡ b → IsWantedAt paths nodes wanted n
    by_test n true e = h n (ltb-true n (length nodes) e)
    by_test n false e = wanted_nowhere paths nodes wanted n (past_nodes wanted.sets.items nodes n (ltb-false n (length nodes) e))

-- ---- a path

-- what is accepted at these pcs fits the slots of a path
pub record Fits (wanted : Wanted) (p : Path) (from until : ℕ) : Type 0 where
  pub types : List VType
  pub is : types_on p ≡ Some types
  pub each : (w : World) (slot : ℕ) (t : VType) → accepts w wanted from until slot t ≡ true → assignable w t (type_at (slot_types types) slot) ≡ true

pub past_last : (xs : List VType) (t : VType) (i : ℕ) (b : Bool) → length xs < i → type_at (xs ++ cond b (t ∷ types.Top ∷ []) (t ∷ [])) i ≡ types.Top
past_last [] t zero b high = absurd (omega arith)
past_last [] t (suc zero) true high = refl
past_last [] t (suc (suc i)) true high = refl
past_last [] t (suc i) false high = refl
past_last (x ∷ xs) t zero b high = absurd (omega arith)
past_last (x ∷ xs) t (suc i) b high = past_last xs t i b (omega arith)

pub seam : (xs : List VType) (t : VType) (i : ℕ) (b : Bool) → i ≡ length xs → type_at (xs ++ cond b (t ∷ types.Top ∷ []) (t ∷ [])) i ≡ t
seam xs t i true e = type_seam xs (types.Top ∷ []) t i e
seam xs t i false e = type_seam xs [] t i e

fits_more : (paths : List Path) (nodes : List ℕ) (wanted : Wanted) (n : ℕ) (x : Option VType) (q : Path) (from until : ℕ) → path paths n ≡ x ∷ q → meet (pcs_of wanted.sets.items nodes n) from until ≡ true → (h : IsWantedOn paths nodes wanted n)
    → Fits wanted q from until → Fits wanted (x ∷ q) from until
fits_more paths nodes wanted n x q from until e at h below = record {
  types = below.types ++ h.item ∷ [];
  is = ap (λ o. o >>= λ ts. x >>= λ u. Some (ts ++ u ∷ [])) below.is ∙ ap (λ (i : Option VType). i >>= λ u. Some (below.types ++ u ∷ [])) item;
  each = λ w slot t taken. subst (λ (ls : List VType). assignable w t (type_at ls slot) ≡ true) (sym (slots_last below.types h.item)) (by_place w slot t taken (ltb slot h.slot) (eqb slot h.slot) refl refl);
}
  where
    both : x ∷ q ≡ Some h.item ∷ path paths h.below
    both = sym e ∙ h.is

    item : x ≡ Some h.item
    item = cc

    under : q ≡ path paths h.below
    under = cc

    count : h.slot ≡ length (slot_types below.types)
    count = count_of q below.types h.slot below.is (ap count_on under ∙ sym h.count)

    by_place : (w : World) (slot : ℕ) (t : VType) → accepts w wanted from until slot t ≡ true → (a b : Bool) → ltb slot h.slot ≡ a → eqb slot h.slot ≡ b → assignable w t (type_at (slot_types below.types ++ types_of h.item) slot) ≡ true
    by_place w slot t taken true b low same =
        subst (λ (u : VType). assignable w t u ≡ true) (sym (get_or_append_left (slot_types below.types) (types_of h.item) types.Top slot (omega (arith, ltb-true slot h.slot low, count)))) (below.each w slot t taken)
    by_place w slot t taken false true low same =
        let it = eqb-true slot h.slot same in
        subst (λ (u : VType). assignable w t u ≡ true) (sym (seam (slot_types below.types) h.item slot (is_wide h.item) (it ∙ count)))
        (h.serves.fits w from until t at (subst (λ k. accepts w wanted from until k t ≡ true) it taken))
    by_place w slot t taken false false low same =
        let far = ltb-false slot h.slot low in
        let other = eqb-false slot h.slot same in
        subst (λ (u : VType). assignable w t u ≡ true) (sym (past_last (slot_types below.types) h.item slot (is_wide h.item) (omega (arith, far, count)))) refl

pub fits_wanted : (paths : List Path) (nodes : List ℕ) (wanted : Wanted) → AreWanted paths nodes wanted → (p : Path) (n from until : ℕ) → path paths n ≡ p → meet (pcs_of wanted.sets.items nodes n) from until ≡ true → Fits wanted p from until
fits_wanted paths nodes wanted all [] n from until e at = record { types = []; is = refl; each = λ w slot t taken. refl }
fits_wanted paths nodes wanted all (x ∷ q) n from until e at = by_node (all.each n).each (λ below same more. fits_wanted paths nodes wanted all q below from until same more)
  where
    by_node : ((from until : ℕ) → meet (pcs_of wanted.sets.items nodes n) from until ≡ true → (path paths n ≡ []) ⊎ IsWantedOn paths nodes wanted n)
        → ((below : ℕ) → path paths below ≡ q → meet (pcs_of wanted.sets.items nodes below) from until ≡ true → Fits wanted q from until) → Fits wanted (x ∷ q) from until
    by_node each rest = by_case (each from until at)
      where
        by_case : (path paths n ≡ []) ⊎ IsWantedOn paths nodes wanted n → Fits wanted (x ∷ q) from until
        by_case (inl none) = let bad : x ∷ q ≡ [] = sym e ∙ none in absurd cc
        by_case (inr h) =
            let both : x ∷ q ≡ Some h.item ∷ path paths h.below = sym e ∙ h.is in
            let under : path paths h.below ≡ q = cc in
            fits_more paths nodes wanted n x q from until e at h (rest h.below under (h.within.meet from until at))

-- ---- a frame

one_range : (s : Span) (from until : ℕ) → meets s from until ≡ true → meet (s ∷ []) from until ≡ true
one_range s from until h = rw h refl

pub takes_padded : (w : World) (max slot : ℕ) (xs : List VType) (t : VType) → assignable w t (type_at xs slot) ≡ true → assignable w t (type_at (padded max xs) slot) ≡ true
takes_padded w max slot xs t h = by_test (ltb slot (length xs)) refl
  where
    by_test : (b : Bool) → ltb slot (length xs) ≡ b → assignable w t (type_at (padded max xs) slot) ≡ true
    by_test true e = subst (λ (u : VType). assignable w t u ≡ true) (sym (get_or_append_left xs (replicate (max - length xs) types.Top) types.Top slot (ltb-true slot (length xs) e))) h
    by_test false e = subst (λ (u : VType). assignable w t u ≡ true) (sym (top_past xs (max - length xs) slot (ltb-false slot (length xs) e))) refl

pub asked_of : (ps : List Path) (constructor : Bool) (max : ℕ) (es : List Entry) (nodes : List ℕ) (wanted : Wanted) (fs : List MapFrame) (r : Row) → map (entry_in ps constructor max) es ≡ fs → AreWanted ps nodes wanted → HasPcs wanted.sets.items nodes es r → IsAsked fs wanted r
asked_of ps constructor max es nodes wanted fs r are all h = record { fits = λ f g at is w from until slot t met taken. by_entry f g is w from until slot t met taken (entry_at r.handler es) refl (sym (frame_found ps constructor max r.handler es) ∙ ap (frame_at r.handler) are ∙ at) }
  where
    by_entry : (f : MapFrame) (g : TypeState) → f.state ≡ Some g → (w : World) (from until slot : ℕ) (t : VType) → meets (row_span r) from until ≡ true → accepts w wanted from until slot t ≡ true
        → (o : Option Entry) → entry_at r.handler es ≡ o → option_map (entry_in ps constructor max) (entry_at r.handler es) ≡ Some f → assignable w t (type_at g.types.locals slot) ≡ true
    by_entry f g is w from until slot t met taken None e found = let bad : None ≡ Some f = ap (λ o. option_map (entry_in ps constructor max) o) (sym e) ∙ found in absurd cc
    by_entry f g is w from until slot t met taken (Some x) e found =
        let whole : Some (entry_in ps constructor max x) ≡ Some f = ap (λ o. option_map (entry_in ps constructor max) o) (sym e) ∙ found in
        let same : entry_in ps constructor max x ≡ f = cc in
        let parts = parts_of constructor max (types_on (path ps x.locals)) (types_on (path ps x.stack)) g (ap (λ (m : MapFrame). m.state) same ∙ is) in
        let fits = fits_wanted ps nodes wanted all (path ps x.locals) x.locals from until refl ((h.within x e).meet from until (one_range (row_span r) from until met)) in
        let both : Some fits.types ≡ Some parts.types = sym fits.is ∙ parts.are in
        let one : fits.types ≡ parts.types = cc in
        subst (λ (ls : List VType). assignable w t (type_at ls slot) ≡ true) (sym parts.locals)
        (takes_padded w max slot (slot_types parts.types) t (subst (λ (ts : List VType). assignable w t (type_at (slot_types ts) slot) ≡ true) one (fits.each w slot t taken)))

pub asked_all : (ps : List Path) (constructor : Bool) (max : ℕ) (es : List Entry) (fs : List MapFrame) (rows : List Row) → map (entry_in ps constructor max) es ≡ fs → (r : Result (Option Wanted) NoMemory) → IfOk r (λ o. IfSome o (IsGathered ps es rows))
    → IfOk r (λ o. IfSome o (λ wanted. All (IsAsked fs wanted) rows))
asked_all ps constructor max es fs rows are (Err e) h = h
asked_all ps constructor max es fs rows are (Ok None) h = h
asked_all ps constructor max es fs rows are (Ok (Some wanted)) h = λ k d low. asked_of ps constructor max es h.nodes wanted fs (get_or rows k d) are h.all (h.pcs k d low)

-- ---- what a test shows

pub if_shown : (b : Bool) (P : Type 0) → b ≡ true → MatchBool b P (Unit {0}) → P
if_shown true P e h = h
if_shown false P e h = absurd cc
