-- Single local variables that fit a frame.
use Rattle.std.proofs.Common.{◌≡◌, ℕ, zero, suc, ◌+◌, ◌<◌, true, false, Bool, ltb, List, [], ◌∷◌, length, get_or, Option, Some, refl, ap, sym, subst, ◌∙◌, arith}
use Rattle.std.proofs.lemmas.Bool.{ltb-true, ltb-false}
use Rattle.std.specs.Prelude.{map}
use Rattle.std.specs.List.{All}
use Rattle.instruction_rows.specs.Contents.{slot_types}
use Rattle.stack_maps.specs.declared.types.VType.{VType}
use Rattle.type_paths.specs.Paths.{Path, path, types_on}
use Rattle.link_model.specs.World.{World}
use Rattle.verify_types.specs.Assignability.{assignable}
use Rattle.verify_types.specs.Environment.{MapFrame}
use Rattle.verify_types.specs.TypeStates.{TypeState}
use Rattle.verify_frames.specs.declared.frame_paths.Entry.{Entry}
use Rattle.verify_frames.specs.Entries.{entry_at}
use Rattle.verify_frames.specs.FramePaths.{entry_in}
use Rattle.verify_frames.specs.Frames.{frame_at}
use Rattle.verify_frames.specs.Overwrites.{type_at}
use Rattle.verify_frames.specs.Skips.{IsTypeOf, TakesAt}
use Rattle.verify_frames.specs.Takes.{Takes}
use Rattle.verify_frames.proofs.FrameLaws.{one_found}
use Rattle.verify_frames.proofs.NearLaws.{parts_of, state_same}
use Rattle.verify_frames.proofs.WantedLaws.{takes_padded}

pub takes_type : (w : World) (p : Path) (locals : List VType) (slot : ℕ) (t u : VType) → IsTypeOf p slot t → u ≡ type_at locals slot → assignable w u t ≡ true → TakesAt w p locals slot
takes_type w p locals slot t u h is e = record {
  fits = λ ts known. subst (λ (x : VType). assignable w (type_at locals slot) x ≡ true) (sym (h.is ts known)) (subst (λ (x : VType). assignable w x t ≡ true) is e);
}

pub takes_frame : (ps : List Path) (constructor : Bool) (max pc : ℕ) (es : List Entry) (fs : List MapFrame) (o : Option Entry) (e : Entry) (w : World) (locals : List VType) (slots : List ℕ) → map (entry_in ps constructor max) es ≡ fs → o ≡ entry_at pc es → o ≡ Some e
    → All (TakesAt w (path ps e.locals) locals) slots → Takes w fs pc locals slots
takes_frame ps constructor max pc es fs o e w locals slots are at is h = record { each = λ f g there state k d low. by_frame f g there state (h k d low) }
  where
    by_frame : (f : MapFrame) (g : TypeState) → frame_at pc fs ≡ Some f → f.state ≡ Some g → {i : ℕ} → TakesAt w (path ps e.locals) locals i → assignable w (type_at locals i) (type_at g.types.locals i) ≡ true
    by_frame f g there state {i} taken =
        let found : frame_at pc fs ≡ Some (entry_in ps constructor max e) = ap (frame_at pc) (sym are) ∙ one_found ps constructor max pc es o e at is in
        let parts = parts_of constructor max (types_on (path ps e.locals)) (types_on (path ps e.stack)) g (state_same f (entry_in ps constructor max e) (frame_at pc fs) g there found state) in
        subst (λ (ls : List VType). assignable w (type_at locals i) (type_at ls i) ≡ true) (sym parts.locals) (takes_padded w max i (slot_types parts.types) (type_at locals i) (taken.fits parts.types parts.are))

-- ---- one more

same_default : (xs : List ℕ) (k d e : ℕ) → k < length xs → get_or xs k d ≡ get_or xs k e
same_default [] k d e low = absurd (omega arith)
same_default (x ∷ xs) zero d e low = refl
same_default (x ∷ xs) (suc k) d e low = same_default xs k d e (omega arith)

pub one_more : (P : ℕ → Type 0) (xs : List ℕ) (n : ℕ) → ((k d : ℕ) → k < n → P (get_or xs k d)) → n < length xs → P (get_or xs n 0) → (k d : ℕ) → k < n + 1 → P (get_or xs k d)
one_more P xs n before inside here k d low = by_test (ltb k n) refl
  where
    by_test : (b : Bool) → ltb k n ≡ b → P (get_or xs k d)
    by_test true e = before k d (ltb-true k n e)
    by_test false e =
        let high = ltb-false k n e in
        let same : n ≡ k = omega arith in
        subst P (same_default xs k 0 d (omega arith)) (subst (λ i. P (get_or xs i 0)) same here)
