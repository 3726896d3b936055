-- The frames of a map as they are kept.
use Rattle.std.proofs.Common.{◌≡◌, ℕ, ◌+◌, true, false, Bool, cond, List, [], ◌∷◌, ◌++◌, length, Option, Some, None, refl, ap, sym, subst, ◌∙◌, append_assoc, arith}
use Rattle.std.specs.Prelude.{map, nat_lt, ◌==◌, ◌&&◌, ◌||◌}
use Rattle.std.specs.List.{AllZip}
use Rattle.std.specs.Option.{option_map}
use Rattle.std.proofs.lemmas.List.{append-nil, nil_from_length}
use Rattle.stack_maps.specs.declared.types.VType.{VType}
use Rattle.stack_maps.specs.declared.types.FrameTypes.{FrameTypes}
use Rattle.stack_maps.specs.declared.types.FrameChange.{FrameChange}
use Rattle.stack_maps.specs.Changes.{locals_after, made_whole, types_after}
use Rattle.type_paths.specs.Paths.{Path, IsPath}
use Rattle.link_model.specs.declared.members.MethodInfo.{MethodInfo}
use Rattle.link_model.specs.World.{World}
use Rattle.verify_types.specs.Environment.{MapFrame, map_frame, is_constructor}
use Rattle.verify_frames.specs.declared.frame_paths.Entry.{Entry}
use Rattle.verify_frames.specs.Entries.{Rises, entry_at, stray_entry, pc_of}
use Rattle.verify_frames.specs.StackMaps as maps
use Rattle.verify_frames.specs.FramePaths.{Grows, IsEntry, entry_in, path_of}
use Rattle.verify_frames.specs.Frames.{frame_at, stray_frame}
use Rattle.verify_frames.proofs.FramePathLaws.{entry_is, grows_not, kept}

-- ---- frames that are found

found : {A B : Type 0} (f : A → B) (b : Bool) (x : A) (o : Option A) → cond b (Some (f x)) (option_map f o) ≡ option_map f (cond b (Some x) o)
found f true x o = refl
found f false x o = refl

pub frame_found : (ps : List Path) (constructor : Bool) (max pc : ℕ) (es : List Entry)
    → frame_at pc (map (entry_in ps constructor max) es) ≡ option_map (entry_in ps constructor max) (entry_at pc es)
frame_found ps constructor max pc [] = refl
frame_found ps constructor max pc (e ∷ es) =
    ap (λ o. cond (e.pc == pc) (Some (entry_in ps constructor max e)) o) (frame_found ps constructor max pc es)
    ∙ found (entry_in ps constructor max) (e.pc == pc) e (entry_at pc es)

pub one_found : (ps : List Path) (constructor : Bool) (max pc : ℕ) (es : List Entry) (o : Option Entry) (e : Entry) → o ≡ entry_at pc es → o ≡ Some e
    → frame_at pc (map (entry_in ps constructor max) es) ≡ Some (entry_in ps constructor max e)
one_found ps constructor max pc es o e at is = frame_found ps constructor max pc es ∙ ap (λ o. option_map (entry_in ps constructor max) o) (sym at ∙ is)

stray_found : (ps : List Path) (constructor : Bool) (max pc next : ℕ) (is_last : Bool) (es : List Entry)
    → stray_frame pc next is_last (map (entry_in ps constructor max) es) ≡ option_map (entry_in ps constructor max) (stray_entry pc next is_last es)
stray_found ps constructor max pc next is_last [] = refl
stray_found ps constructor max pc next is_last (e ∷ es) =
    let test = nat_lt pc e.pc && (is_last || nat_lt e.pc next) in
    ap (λ o. cond test (Some (entry_in ps constructor max e)) o) (stray_found ps constructor max pc next is_last es)
    ∙ found (entry_in ps constructor max) test e (stray_entry pc next is_last es)

pc_kept : (ps : List Path) (constructor : Bool) (max : ℕ) (o : Option Entry) → option_map pc_of o ≡ option_map (λ (f : MapFrame). f.pc) (option_map (entry_in ps constructor max) o)
pc_kept ps constructor max None = refl
pc_kept ps constructor max (Some e) = refl

pub stray_pc : (ps : List Path) (constructor : Bool) (max pc next : ℕ) (is_last : Bool) (es : List Entry)
    → option_map pc_of (stray_entry pc next is_last es) ≡ option_map (λ (f : MapFrame). f.pc) (stray_frame pc next is_last (map (entry_in ps constructor max) es))
stray_pc ps constructor max pc next is_last es =
    pc_kept ps constructor max (stray_entry pc next is_last es) ∙ ap (λ o. option_map (λ (f : MapFrame). f.pc) o) (sym (stray_found ps constructor max pc next is_last es))

-- ---- the entries of frames, one after the other

-- these are the entries of frames of a map, and the rest of its changes comes after local variables of this path
pub record Built (w : World) (class : ℕ) (first : List VType) (changes : List (ℕ × FrameChange)) (paths : List Path) (entries : List Entry) (locals : ℕ) (rest : List (ℕ × FrameChange)) : Type 0 where
  pub before : List VType
  pub whole : List (ℕ × FrameTypes)
  pub at : IsPath paths locals (path_of w class before)
  pub are : AllZip (IsEntry w class paths) entries whole
  pub is : whole ++ made_whole before rest ≡ made_whole first changes

pub built_none : (w : World) (class : ℕ) (first : List VType) (changes : List (ℕ × FrameChange)) (paths : List Path) (locals : ℕ) → IsPath paths locals (path_of w class first)
    → Built w class first changes paths [] locals changes
built_none w class first changes paths locals at = record { before = first; whole = []; at = at; are = tt; is = refl }

entry_kept : (w : World) (class : ℕ) (a b : List Path) (e : Entry) (f : ℕ × FrameTypes) → Grows a b → IsEntry w class a e f → IsEntry w class b e f
entry_kept w class a b e f g h = record { pc = h.pc; locals = kept a b e.locals _ g h.locals; stack = kept a b e.stack _ g h.stack }

all_kept : (w : World) (class : ℕ) (a b : List Path) (es : List Entry) (fs : List (ℕ × FrameTypes)) → Grows a b → AllZip (IsEntry w class a) es fs → AllZip (IsEntry w class b) es fs
all_kept w class a b [] [] g h = tt
all_kept w class a b [] (f ∷ fs) g h = absurd h
all_kept w class a b (e ∷ es) [] g h = absurd h
all_kept w class a b (e ∷ es) (f ∷ fs) g h = (entry_kept w class a b e f g h.0, all_kept w class a b es fs g h.1)

one_kept : (w : World) (class : ℕ) (ps : List Path) (es : List Entry) (fs : List (ℕ × FrameTypes)) (e : Entry) (f : ℕ × FrameTypes) → AllZip (IsEntry w class ps) es fs → IsEntry w class ps e f
    → AllZip (IsEntry w class ps) (es ++ e ∷ []) (fs ++ f ∷ [])
one_kept w class ps [] [] e f h is = (is, tt)
one_kept w class ps [] (g ∷ fs) e f h is = absurd h
one_kept w class ps (d ∷ es) [] e f h is = absurd h
one_kept w class ps (d ∷ es) (g ∷ fs) e f h is = (h.0, one_kept w class ps es fs e f h.1 is)

pub built_one : (w : World) (class : ℕ) (first : List VType) (changes : List (ℕ × FrameChange)) (paths new : List Path) (entries : List Entry) (locals : ℕ) (e : Entry) (change : ℕ × FrameChange) (left rest : List (ℕ × FrameChange))
    → Built w class first changes paths entries locals left → left ≡ change ∷ rest → Grows paths new
    → ((ls : List VType) → IsPath paths locals (path_of w class ls) → IsEntry w class new e (change.0, types_after ls change.1))
    → Built w class first changes new (entries ++ e ∷ []) e.locals rest
built_one w class first changes paths new entries locals e change left rest so_far parted g is =
    let f : ℕ × FrameTypes = (change.0, types_after so_far.before change.1) in
    let entry = is so_far.before so_far.at in
    record {
      before = locals_after so_far.before change.1.locals;
      whole = so_far.whole ++ f ∷ [];
      at = entry.locals;
      are = one_kept w class new entries so_far.whole e f (all_kept w class paths new entries so_far.whole g so_far.are) entry;
      is = append_assoc so_far.whole (f ∷ []) (made_whole (locals_after so_far.before change.1.locals) rest) ∙ ap (λ cs. so_far.whole ++ made_whole so_far.before cs) (sym parted) ∙ so_far.is;
    }

pub all_are : (w : World) (m : MethodInfo) (max : ℕ) (ps : List Path) (es : List Entry) (fs : List (ℕ × FrameTypes)) → AllZip (IsEntry w m.class ps) es fs
    → map (entry_in ps (is_constructor m) max) es ≡ map (map_frame w m max) fs
all_are w m max ps [] [] h = refl
all_are w m max ps [] (f ∷ fs) h = absurd h
all_are w m max ps (e ∷ es) [] h = absurd h
all_are w m max ps (e ∷ es) (f ∷ fs) h =
    ap (λ x. x ∷ map (entry_in ps (is_constructor m) max) es) (entry_is w m max ps ps e f (grows_not ps) h.0)
    ∙ ap (λ xs. map_frame w m max f ∷ xs) (all_are w m max ps es fs h.1)

all_whole : (w : World) (class : ℕ) (first : List VType) (changes : List (ℕ × FrameChange)) (paths : List Path) (entries : List Entry) (locals : ℕ) (rest : List (ℕ × FrameChange)) → (h : Built w class first changes paths entries locals rest)
    → length rest ≡ 0 → h.whole ≡ made_whole first changes
all_whole w class first changes paths entries locals rest h none =
    sym (append-nil h.whole) ∙ ap (λ cs. h.whole ++ made_whole h.before cs) (sym (nil_from_length rest none)) ∙ h.is

pub built_whole : (w : World) (class : ℕ) (first : List VType) (changes : List (ℕ × FrameChange)) (paths : List Path) (entries : List Entry) (locals : ℕ) (rest : List (ℕ × FrameChange))
    → Built w class first changes paths entries locals rest → length rest ≡ 0 → AllZip (IsEntry w class paths) entries (made_whole first changes)
built_whole w class first changes paths entries locals rest h none =
    subst (λ (fs : List (ℕ × FrameTypes)). AllZip (IsEntry w class paths) entries fs) (all_whole w class first changes paths entries locals rest h none) h.are

-- ---- and rise

pub entries_rise : (w : World) (class low : ℕ) (ps : List Path) (es : List Entry) (fs : List (ℕ × FrameTypes)) → AllZip (IsEntry w class ps) es fs → Rises maps.pc_of low fs → Rises pc_of low es
entries_rise w class low ps [] [] h rises = tt
entries_rise w class low ps [] (f ∷ fs) h rises = absurd h
entries_rise w class low ps (e ∷ es) [] h rises = absurd h
entries_rise w class low ps (e ∷ es) (f ∷ fs) h rises =
    (omega (arith, rises.0, h.0.pc), entries_rise w class (e.pc + 1) ps es fs h.1 (subst (λ (n : ℕ). Rises maps.pc_of (n + 1) fs) (sym h.0.pc) rises.1))
