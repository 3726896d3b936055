-- Local variables of one frame, and those of another.
use Rattle.std.proofs.Common.{◌≡◌, ℕ, zero, suc, ◌+◌, ◌-◌, ◌<◌, ◌≤◌, Bool, true, false, cond, eqb, ltb, List, [], ◌∷◌, ◌++◌, length, Option, Some, None, refl, ap, sym, subst, ◌∙◌, append_assoc, arith}
use Rattle.std.specs.Prelude.{◌&&◌, ◌||◌, IfSome, is_some, not, replicate}
use Rattle.std.specs.List.{list_any}
use Rattle.std.specs.Option.{option_map}
use Rattle.std.proofs.lemmas.Bool.{eq-eqb, eqb-true, eqb-false, ltb-true, ltb-false}
use Rattle.std.proofs.lemmas.Grind.{flat_map-append}
use Rattle.std.proofs.lemmas.List.{append-nil, get_or_append_left, length-append}
use Rattle.std.proofs.lemmas.List.Folds.{list_any-append}
use Rattle.std.proofs.Math.Seq.{get_or-append_seam}
use Rattle.items.specs.Options.{◌>>=◌}
use Rattle.stack_maps.specs.declared.types.VType.{VType}
use Rattle.stack_maps.specs.declared.types.VType.TheVariants as types
use Rattle.stack_maps.specs.declared.types.FrameTypes.{FrameTypes}
use Rattle.instruction_rows.specs.Contents.{is_wide, slot_types, types_of}
use Rattle.type_paths.specs.Paths.{Path, count_on, path, types_on}
use Rattle.verify_types.specs.Environment.{Environment, MapFrame, map_at}
use Rattle.link_model.specs.World.{World}
use Rattle.verify_types.specs.Assignability.{assignable}
use Rattle.verify_types.specs.TypeStates.{TypeState, all_assignable, is_this, padded}
use Rattle.verify_frames.specs.declared.frame_paths.Entry.{Entry}
use Rattle.verify_frames.specs.declared.overwritten.Like.{Like}
use Rattle.verify_frames.specs.declared.overwritten.Overwritten.{Overwritten}
use Rattle.verify_frames.specs.FramePaths.{entry_in, frame_types, state_where}
use Rattle.verify_frames.specs.Frames.{frame_at}
use Rattle.verify_frames.specs.Near.{Covers, IsMoved, IsNear, Moves, Unsets, adding, merged, slot_at, slots_at}
use Rattle.verify_frames.specs.Overwrites.{AllWere, AreBut, are_assignable, is_noted, type_at}
use Rattle.verify_frames.specs.KnownStates.{FitsLocals, IsLike, MayBeLike}
use Rattle.verify_frames.proofs.OverwriteLaws.{all_by_number, at_noted, none_noted, one_by_one, second_of}
use Rattle.verify_frames.specs.Flags.{HaveSameFlag}
use Rattle.verify_frames.specs.PathFits.{is_this_item}
use Rattle.verify_frames.proofs.FrameFitLaws.{this_on}

-- ---- a clause at what was found

pub some_of : {X : Type 0} (o : Option X) (x : X) (P : X → Type 0) → o ≡ Some x → IfSome o P → P x
some_of o x P is h = subst (λ p. IfSome p P) is h

-- ---- what is noted

left_false : (a b : Bool) → (a || b) ≡ false → a ≡ false
left_false true b e = absurd cc
left_false false b e = refl

right_false : (a b : Bool) → (a || b) ≡ false → b ≡ false
right_false true b e = absurd cc
right_false false b e = e

or_true : (a : Bool) → (a || true) ≡ true
or_true true = refl
or_true false = refl

noted_both : (os ps : List Overwritten) (i : ℕ) → is_noted (os ++ ps) i ≡ (is_noted os i || is_noted ps i)
noted_both os ps i = list_any-append (λ (o : Overwritten). eqb o.slot i) os ps

in_front : (os ps : List Overwritten) (i : ℕ) → is_noted os i ≡ true → is_noted (os ++ ps) i ≡ true
in_front os ps i e = noted_both os ps i ∙ ap (λ b. b || is_noted ps i) e

at_end : (os ps : List Overwritten) (i : ℕ) → is_noted ps i ≡ true → is_noted (os ++ ps) i ≡ true
at_end os ps i e = noted_both os ps i ∙ ap (λ b. is_noted os i || b) e ∙ or_true (is_noted os i)

not_in_front : (os ps : List Overwritten) (i : ℕ) → is_noted (os ++ ps) i ≡ false → is_noted os i ≡ false
not_in_front os ps i e = left_false (is_noted os i) (is_noted ps i) (sym (noted_both os ps i) ∙ e)

its_own : (slot i : ℕ) (t : VType) → slot ≡ i → is_noted (slot_at slot t ∷ []) i ≡ true
its_own slot i t e = ap (λ b. b || false) (eq-eqb slot i e)

were_both : (ls : List VType) (os ps : List Overwritten) → AllWere ls os → AllWere ls ps → AllWere ls (os ++ ps)
were_both ls [] ps h k = k
were_both ls (o ∷ os) ps h k = (h.0, were_both ls os ps h.1 k)

-- ---- the types of a path, from its front on

pub record Front (q : Path) (ts : List VType) : Type 0 where
  pub front : List VType
  pub rest : List VType
  pub is : types_on q ≡ Some front
  pub parts : ts ≡ front ++ rest

pub front_of : (more q : Path) (ts : List VType) → types_on (more ++ q) ≡ Some ts → Front q ts
front_of [] q ts e = record { front = ts; rest = []; is = e; parts = sym (append-nil ts) }
front_of (x ∷ more) q ts e = step (types_on (more ++ q)) x (λ us is. front_of more q us is) refl e
  where
    step : (o : Option (List VType)) (x : Option VType) → ((us : List VType) → types_on (more ++ q) ≡ Some us → Front q us) → types_on (more ++ q) ≡ o → (o >>= λ us. x >>= λ u. Some (us ++ u ∷ [])) ≡ Some ts → Front q ts
    step None x below is e = absurd cc
    step (Some us) None below is e = absurd cc
    step (Some us) (Some u) below is e =
        let b = below us is in
        let whole : us ++ u ∷ [] ≡ ts = cc in
        record { front = b.front; rest = b.rest ++ u ∷ []; is = b.is; parts = sym whole ∙ ap (λ (vs : List VType). vs ++ u ∷ []) b.parts ∙ append_assoc b.front b.rest (u ∷ []) }

-- the path is this type on another, whose types are these
pub record Last (below : Path) (t : VType) (us : List VType) : Type 0 where
  pub under : List VType
  pub is : types_on below ≡ Some under
  pub parts : us ≡ under ++ t ∷ []

pub last_of : (q below : Path) (item : Option VType) (t : VType) (us : List VType) → q ≡ item ∷ below → item ≡ Some t → types_on q ≡ Some us → Last below t us
last_of q below item t us at is e =
    step (types_on below) refl (sym (ap types_on at ∙ ap (λ i. types_on below >>= λ vs. i >>= λ u. Some (vs ++ u ∷ [])) is) ∙ e)
  where
    step : (o : Option (List VType)) → types_on below ≡ o → (o >>= λ vs. Some t >>= λ u. Some (vs ++ u ∷ [])) ≡ Some us → Last below t us
    step None e h = absurd cc
    step (Some vs) e h = let whole : vs ++ t ∷ [] ≡ us = cc in record { under = vs; is = e; parts = sym whole }

counted : (o : Option (List VType)) (ts : List VType) (c : ℕ) → o ≡ Some ts → option_map (λ us. length (slot_types us)) o ≡ Some c → c ≡ length (slot_types ts)
counted None ts c e h = absurd cc
counted (Some us) ts c e h =
    let same : us ≡ ts = cc in
    let n : length (slot_types us) ≡ c = cc in
    sym n ∙ ap (λ (vs : List VType). length (slot_types vs)) same

pub count_of : (p : Path) (ts : List VType) (c : ℕ) → types_on p ≡ Some ts → count_on p ≡ Some c → c ≡ length (slot_types ts)
count_of p ts c e h = counted (types_on p) ts c e h

is_counted : (o : Option (List VType)) (c : ℕ) → option_map (λ us. length (slot_types us)) o ≡ Some c → is_some o ≡ true
is_counted None c e = absurd cc
is_counted (Some us) c e = refl

pub slots_both : (ts us : List VType) → slot_types (ts ++ us) ≡ slot_types ts ++ slot_types us
slots_both ts us = flat_map-append types_of ts us

pub slots_last : (ts : List VType) (t : VType) → slot_types (ts ++ t ∷ []) ≡ slot_types ts ++ types_of t
slots_last ts t = slots_both ts (t ∷ []) ∙ ap (λ (s : List VType). slot_types ts ++ s) (append-nil (types_of t))

-- ---- the slots of one type

pub type_seam : (xs ys : List VType) (t : VType) (n : ℕ) → n ≡ length xs → type_at (xs ++ t ∷ ys) n ≡ t
type_seam xs ys t n e = ap (λ k. type_at (xs ++ t ∷ ys) k) e ∙ get_or-append_seam xs t ys types.Top

were_slots : (xs after : List VType) (t : VType) (n : ℕ) (b : Bool) → n ≡ length xs → AllWere (xs ++ (cond b (t ∷ types.Top ∷ []) (t ∷ []) ++ after)) (cond b (slot_at n t ∷ slot_at (n + 1) types.Top ∷ []) (slot_at n t ∷ []))
were_slots xs after t n false e = (type_seam xs after t n e, tt)
were_slots xs after t n true e = (
  type_seam xs (types.Top ∷ after) t n e,
  (ap (λ (ls : List VType). type_at ls (n + 1)) (sym (append_assoc xs (t ∷ []) (types.Top ∷ after))) ∙ type_seam (xs ++ t ∷ []) after types.Top (n + 1) (omega (arith, e, length-append xs (t ∷ []))), tt),
)

noted_slots : (t : VType) (n i : ℕ) (b : Bool) → n ≤ i → i < n + length (cond b (t ∷ types.Top ∷ []) (t ∷ [])) → is_noted (cond b (slot_at n t ∷ slot_at (n + 1) types.Top ∷ []) (slot_at n t ∷ [])) i ≡ true
noted_slots t n i false low high = its_own n i t (omega arith)
noted_slots t n i true low high = by_test (eqb n i) refl
  where
    by_test : (b : Bool) → eqb n i ≡ b → (b || is_noted (slot_at (n + 1) types.Top ∷ []) i) ≡ true
    by_test true e = refl
    by_test false e = its_own (n + 1) i types.Top (past (λ s. eqb-false n i e s))
      where
        past : (n ≡ i → ⊥) → n + 1 ≡ i
        past other = omega arith

-- ---- a walk down a path

-- these are the types of the path p after the path q, on which it lies
pub record Walked (p q : Path) (os : List Overwritten) : Type 0 where
  pub more : Path
  pub on : p ≡ more ++ q
  pub covers : Covers p q os

same_count : (p : Path) (c d : ℕ) → count_on p ≡ Some c → count_on p ≡ Some d → c ≡ d
same_count p c d e f = let same : Some c ≡ Some d = sym e ∙ f in cc

pub walked_none : (p : Path) → Walked p p []
walked_none p = record {
  more = [];
  on = refl;
  covers = record { were = λ ts tail e. tt; all = λ c d i e f low high. let same = same_count p c d e f in absurd (omega arith) };
}

pub walked_one : (p q below : Path) (item : Option VType) (t : VType) (slot : ℕ) (os : List Overwritten) → Walked p q os → q ≡ item ∷ below → item ≡ Some t → Some slot ≡ count_on below → Walked p below (os ++ slots_at slot t)
walked_one p q below item t slot os h at is count = record {
  more = h.more ++ item ∷ [];
  on = h.on ∙ ap (λ (r : Path). h.more ++ r) at ∙ sym (append_assoc h.more (item ∷ []) below);
  covers = record {
    were = λ ts tail e. were_both (slot_types ts ++ tail) os (slots_at slot t) (h.covers.were ts tail e) (here ts tail (front_of h.more q ts (ap types_on (sym h.on) ∙ e)));
    all = λ c d i e f low high. noted_at c d i (sym e ∙ sym count) f low high;
  };
}
  where
    under : (us : List VType) → types_on q ≡ Some us → Last below t us
    under us e = last_of q below item t us at is e

    here : (ts tail : List VType) → Front q ts → AllWere (slot_types ts ++ tail) (slots_at slot t)
    here ts tail f =
        let l = under f.front f.is in
        let n : slot ≡ length (slot_types l.under) = count_of below l.under slot l.is (sym count) in
        let whole : slot_types ts ++ tail ≡ slot_types l.under ++ (types_of t ++ (slot_types f.rest ++ tail)) =
        ap (λ (us : List VType). slot_types us ++ tail) (f.parts ∙ ap (λ (us : List VType). us ++ f.rest) l.parts)
        ∙ ap (λ (s : List VType). s ++ tail) (slots_both (l.under ++ t ∷ []) f.rest ∙ ap (λ (s : List VType). s ++ slot_types f.rest) (slots_last l.under t))
        ∙ append_assoc (slot_types l.under ++ types_of t) (slot_types f.rest) tail
        ∙ append_assoc (slot_types l.under) (types_of t) (slot_types f.rest ++ tail) in
        subst (λ (ls : List VType). AllWere ls (slots_at slot t)) (sym whole) (were_slots (slot_types l.under) (slot_types f.rest ++ tail) t slot (is_wide t) n)

    more_count : (o : Option (List VType)) → types_on below ≡ o → Some slot ≡ option_map (λ us. length (slot_types us)) o → count_on q ≡ Some (slot + length (types_of t))
    more_count None e f = absurd cc
    more_count (Some us) e f =
        let n : slot ≡ length (slot_types us) = cc in
        ap count_on at
        ∙ ap (λ i. option_map (λ us. length (slot_types us)) (types_on below >>= λ vs. i >>= λ u. Some (vs ++ u ∷ []))) is
        ∙ ap (λ o. option_map (λ us. length (slot_types us)) (o >>= λ vs. Some (vs ++ t ∷ []))) e
        ∙ ap Some (ap (λ (s : List VType). length s) (slots_last us t) ∙ omega (arith, n, length-append (slot_types us) (types_of t)))

    noted_at : (c d i : ℕ) → Some c ≡ Some slot → count_on p ≡ Some d → c ≤ i → i < d → is_noted (os ++ slots_at slot t) i ≡ true
    noted_at c d i same f low high = by_test (ltb i (slot + length (types_of t))) refl
      where
        by_test : (b : Bool) → ltb i (slot + length (types_of t)) ≡ b → is_noted (os ++ slots_at slot t) i ≡ true
        by_test true e = let n : c ≡ slot = cc in at_end os (slots_at slot t) i (noted_slots t slot i (is_wide t) (omega arith) (ltb-true i (slot + length (types_of t)) e))
        by_test false e =
            in_front os (slots_at slot t) i (h.covers.all (slot + length (types_of t)) d i (more_count (types_on below) refl count) f (ltb-false i (slot + length (types_of t)) e) high)

pub walked_all : (p q r : Path) (os : List Overwritten) → Walked p q os → q ≡ r → Covers p r os
walked_all p q r os h e = subst (λ (x : Path). Covers p x os) e h.covers

-- ---- slots that are unset

pub unset_none : (os : List Overwritten) (from : ℕ) → Unsets os os from from
unset_none os from = record { were = λ ls top h. h; before = λ i e. e; all = λ i low high. absurd (omega arith) }

pub unset_one : (old new : List Overwritten) (from slot : ℕ) → from ≤ slot → Unsets old new from slot → Unsets old (new ++ slot_at slot types.Top ∷ []) from (slot + 1)
unset_one old new from slot low h = record {
  were = λ ls top k. were_both ls new (slot_at slot types.Top ∷ []) (h.were ls top k) (top slot low, tt);
  before = λ i e. h.before i (not_in_front new (slot_at slot types.Top ∷ []) i e);
  all = λ i least most. by_test i (ltb i slot) refl least most;
}
  where
    by_test : (i : ℕ) (b : Bool) → ltb i slot ≡ b → from ≤ i → i < slot + 1 → is_noted (new ++ slot_at slot types.Top ∷ []) i ≡ true
    by_test i true e least most = in_front new (slot_at slot types.Top ∷ []) i (h.all i least (ltb-true i slot e))
    by_test i false e least most = let far = ltb-false i slot e in at_end new (slot_at slot types.Top ∷ []) i (its_own slot i types.Top (omega arith))

pub unset_all : (old new : List Overwritten) (from until slot : ℕ) → until ≤ slot → Unsets old new from slot → Unsets old new from until
unset_all old new from until slot high h = record { were = h.were; before = h.before; all = λ i low most. h.all i low (omega arith) }

-- ---- two lists in one

adding_were : (b : Bool) (os : List Overwritten) (o : Overwritten) (gs fs : List VType) → is_noted os o.slot ≡ b → AllWere gs os → type_at fs o.slot ≡ o.was → ((i : ℕ) → is_noted os i ≡ false → type_at gs i ≡ type_at fs i)
    → AllWere gs (cond b os (os ++ o ∷ []))
adding_were true os o gs fs e were is same = were
adding_were false os o gs fs e were is same = were_both gs os (o ∷ []) were (same o.slot e ∙ is, tt)

adding_before : (b : Bool) (os : List Overwritten) (o : Overwritten) (i : ℕ) → is_noted (cond b os (os ++ o ∷ [])) i ≡ false → is_noted os i ≡ false
adding_before true os o i e = e
adding_before false os o i e = not_in_front os (o ∷ []) i e

adding_it : (b : Bool) (os : List Overwritten) (o : Overwritten) (i : ℕ) → is_noted os o.slot ≡ b → is_noted (cond b os (os ++ o ∷ [])) i ≡ false → eqb o.slot i ≡ false
adding_it true os o i e h = by_test (eqb o.slot i) refl
  where
    by_test : (b : Bool) → eqb o.slot i ≡ b → b ≡ false
    by_test true is = let noted : is_noted os i ≡ true = subst (λ k. is_noted os k ≡ true) (eqb-true o.slot i is) e in sym noted ∙ h
    by_test false is = refl
adding_it false os o i e h = left_false (eqb o.slot i) false (right_false (is_noted os i) (eqb o.slot i || false) (sym (noted_both os (o ∷ []) i) ∙ h))

merged_were : (os ps : List Overwritten) (gs fs : List VType) → AllWere gs os → AllWere fs ps → ((i : ℕ) → is_noted os i ≡ false → type_at gs i ≡ type_at fs i) → AllWere gs (merged os ps)
merged_were os [] gs fs were is same = were
merged_were os (o ∷ ps) gs fs were is same =
    merged_were (adding os o) ps gs fs (adding_were (is_noted os o.slot) os o gs fs refl were is.0 same) is.1 (λ i e. same i (adding_before (is_noted os o.slot) os o i e))

merged_before : (os ps : List Overwritten) (i : ℕ) → is_noted (merged os ps) i ≡ false → is_noted os i ≡ false
merged_before os [] i e = e
merged_before os (o ∷ ps) i e = adding_before (is_noted os o.slot) os o i (merged_before (adding os o) ps i e)

neither : (a b : Bool) → a ≡ false → b ≡ false → (a || b) ≡ false
neither true b e f = absurd cc
neither false b e f = f

merged_other : (os ps : List Overwritten) (i : ℕ) → is_noted (merged os ps) i ≡ false → is_noted ps i ≡ false
merged_other os [] i e = refl
merged_other os (o ∷ ps) i e =
    neither (eqb o.slot i) (is_noted ps i) (adding_it (is_noted os o.slot) os o i refl (merged_before (adding os o) ps i e)) (merged_other (adding os o) ps i e)

-- ---- from one frame to another

tops_at : (k i : ℕ) → type_at (replicate k types.Top) i ≡ types.Top
tops_at zero i = refl
tops_at (suc k) zero = refl
tops_at (suc k) (suc i) = tops_at k i

pub top_past : (xs : List VType) (k i : ℕ) → length xs ≤ i → type_at (xs ++ replicate k types.Top) i ≡ types.Top
top_past [] k i high = tops_at k i
top_past (x ∷ xs) k zero high = absurd (omega arith)
top_past (x ∷ xs) k (suc i) high = top_past xs k i (omega arith)

replicated : (k : ℕ) → length (replicate k types.Top) ≡ k
replicated zero = refl
replicated (suc k) = omega (arith, replicated k)

pad_length : (max : ℕ) (xs : List VType) → length xs ≤ max → length (padded max xs) ≡ max
pad_length max xs low = length-append xs (replicate (max - length xs) types.Top) ∙ omega (arith, replicated (max - length xs))

pub moves_to : (max had has : ℕ) (p q m : Path) (a b : Path) (cs ds os : List Overwritten) → p ≡ a ++ m → q ≡ b ++ m → Some had ≡ count_on p → Some has ≡ count_on q → had ≤ max → has ≤ max → Covers q m cs → Unsets cs ds has had
    → Moves max p q os (merged ds os)
moves_to max had has p q m a b cs ds os onp onq hadp hasq lowp lowq covers unsets = record { but = λ ts us locals ep eq but. moved ts us locals ep eq but }
  where
    same_at : (ts us : List VType) → types_on p ≡ Some ts → types_on q ≡ Some us → (i : ℕ) → is_noted ds i ≡ false → type_at (padded max (slot_types us)) i ≡ type_at (padded max (slot_types ts)) i
    same_at ts us ep eq i free =
        by_place (ltb i (length (slot_types f.front))) (ltb i has) (ltb i had) refl refl refl
      where
        f : Front m ts
        f = front_of a m ts (ap types_on (sym onp) ∙ ep)

        g : Front m us
        g = front_of b m us (ap types_on (sym onq) ∙ eq)

        one : g.front ≡ f.front
        one = let same : Some g.front ≡ Some f.front = sym g.is ∙ f.is in cc

        c : count_on m ≡ Some (length (slot_types f.front))
        c = ap (λ o. option_map (λ us. length (slot_types us)) o) f.is

        n : had ≡ length (slot_types ts)
        n = count_of p ts had ep (sym hadp)

        k : has ≡ length (slot_types us)
        k = count_of q us has eq (sym hasq)

        left : (ws vs rest : List VType) (pad : List VType) → ws ≡ vs ++ rest → i < length (slot_types vs) → type_at (slot_types ws ++ pad) i ≡ type_at (slot_types vs) i
        left ws vs rest pad e low =
            ap (λ (xs : List VType). type_at (slot_types xs ++ pad) i) e
            ∙ ap (λ (xs : List VType). type_at (xs ++ pad) i) (slots_both vs rest)
            ∙ ap (λ (xs : List VType). type_at xs i) (append_assoc (slot_types vs) (slot_types rest) pad)
            ∙ get_or_append_left (slot_types vs) (slot_types rest ++ pad) types.Top i low

        by_place : (x y z : Bool) → ltb i (length (slot_types f.front)) ≡ x → ltb i has ≡ y → ltb i had ≡ z → type_at (padded max (slot_types us)) i ≡ type_at (padded max (slot_types ts)) i
        by_place true y z ex ey ez =
            let low = ltb-true i (length (slot_types f.front)) ex in
            left us g.front g.rest (replicate (max - length (slot_types us)) types.Top) g.parts (omega (arith, low, ap (λ (xs : List VType). length (slot_types xs)) one))
            ∙ ap (λ (xs : List VType). type_at (slot_types xs) i) one
            ∙ sym (left ts f.front f.rest (replicate (max - length (slot_types ts)) types.Top) f.parts low)
        by_place false true z ex ey ez =
            let noted : is_noted cs i ≡ true = covers.all (length (slot_types f.front)) has i c (sym hasq) (ltb-false i (length (slot_types f.front)) ex) (ltb-true i has ey) in
            let other : is_noted cs i ≡ false = unsets.before i free in
            absurd cc
        by_place false false true ex ey ez =
            let noted : is_noted ds i ≡ true = unsets.all i (ltb-false i has ey) (ltb-true i had ez) in
            absurd cc
        by_place false false false ex ey ez =
            top_past (slot_types us) (max - length (slot_types us)) i (omega (arith, k, ltb-false i has ey))
            ∙ sym (top_past (slot_types ts) (max - length (slot_types ts)) i (omega (arith, n, ltb-false i had ez)))

    moved : (ts us locals : List VType) → types_on p ≡ Some ts → types_on q ≡ Some us → AreBut os (padded max (slot_types ts)) locals → AreBut (merged ds os) (padded max (slot_types us)) locals
    moved ts us locals ep eq but =
        let gs = padded max (slot_types us) in
        let fs = padded max (slot_types ts) in
        let n : had ≡ length (slot_types ts) = count_of p ts had ep (sym hadp) in
        let k : has ≡ length (slot_types us) = count_of q us has eq (sym hasq) in
        let same = same_at ts us ep eq in
        let were : AllWere gs ds = unsets.were gs (λ i low. top_past (slot_types us) (max - length (slot_types us)) i (omega (arith, k, low))) (covers.were us (replicate (max - length (slot_types us)) types.Top) eq) in
        record {
          as_many = pad_length max (slot_types us) (omega (arith, k, lowq)) ∙ sym (pad_length max (slot_types ts) (omega (arith, n, lowp))) ∙ but.as_many;
          kept = λ i e. same i (merged_before ds os i e) ∙ but.kept i (merged_other ds os i e);
          were = merged_were ds os gs fs were but.were same;
        }

-- ---- frames

pub record Parts (constructor : Bool) (max : ℕ) (a : Option (List VType)) (t : TypeState) : Type 0 where
  pub types : List VType
  pub are : a ≡ Some types
  pub locals : t.types.locals ≡ padded max (slot_types types)
  pub flag : t.this_uninit ≡ (constructor && list_any is_this types)

pub parts_of : (constructor : Bool) (max : ℕ) (a b : Option (List VType)) (t : TypeState) → option_map (state_where constructor max) (a >>= λ ls. b >>= λ ss. Some (record { locals = ls; stack = ss })) ≡ Some t → Parts constructor max a t
parts_of constructor max None b t e = absurd cc
parts_of constructor max (Some ls) None t e = absurd cc
parts_of constructor max (Some ls) (Some ss) t e =
    let same : state_where constructor max (record { locals = ls; stack = ss }) ≡ t = cc in
    record {
      types = ls;
      are = refl;
      locals = ap (λ (x : TypeState). x.types.locals) (sym same);
      flag = ap (λ (x : TypeState). x.this_uninit) (sym same);
    }

record Known (constructor : Bool) (max : ℕ) (o : Option FrameTypes) : Type 0 where
  state : TypeState
  is : option_map (state_where constructor max) o ≡ Some state

known_one : (constructor : Bool) (max : ℕ) (o : Option FrameTypes) → is_some o ≡ true → Known constructor max o
known_one constructor max None e = absurd cc
known_one constructor max (Some ts) e = record { state = state_where constructor max ts; is = refl }

pub state_same : (f g : MapFrame) (o : Option MapFrame) (t : TypeState) → o ≡ Some f → o ≡ Some g → f.state ≡ Some t → g.state ≡ Some t
state_same f g o t at there is = let same : f ≡ g = cc in ap (λ (x : MapFrame). x.state) (sym same) ∙ is

-- the flag of a frame by its path
flag_on : (constructor : Bool) (p : Path) (ts : List VType) → types_on p ≡ Some ts → (constructor && list_any is_this_item p) ≡ (constructor && list_any is_this ts)
flag_on constructor p ts e = ap (λ b. constructor && b) (some_of (types_on p) ts _ e (this_on p))

pub near_frame : (ps : List Path) (constructor : Bool) (max pc : ℕ) (fs : List MapFrame) (like l : Like) (other e : Entry) → HaveSameFlag constructor (path ps other.locals) (path ps e.locals) → frame_at like.pc fs ≡ Some (entry_in ps constructor max other) → frame_at pc fs ≡ Some (entry_in ps constructor max e)
    → is_some (frame_types (path ps e.locals) (path ps e.stack)) ≡ true → l.pc ≡ pc → Moves max (path ps other.locals) (path ps e.locals) like.overwritten.items l.overwritten.items → IsNear fs like pc l
near_frame ps constructor max pc fs like l other e alike there here known at moves = record { at = at; moves = λ f t locals found is but. moved f t locals found is but }
  where
    moved : (f : MapFrame) (t : TypeState) (locals : List VType) → frame_at like.pc fs ≡ Some f → f.state ≡ Some t → AreBut like.overwritten.items t.types.locals locals → IsMoved fs pc l.overwritten.items locals t.this_uninit
    moved f t locals found is but =
        let old = parts_of constructor max (types_on (path ps other.locals)) (types_on (path ps other.stack)) t (state_same f (entry_in ps constructor max other) (frame_at like.pc fs) t found there is) in
        let new = known_one constructor max (frame_types (path ps e.locals) (path ps e.stack)) known in
        let now = parts_of constructor max (types_on (path ps e.locals)) (types_on (path ps e.stack)) new.state new.is in
        record {
          frame = entry_in ps constructor max e;
          state = new.state;
          at = here;
          is = new.is;
          but =
              subst (λ (ls : List VType). AreBut l.overwritten.items ls locals) (sym now.locals)
              (moves.but old.types now.types locals old.are now.are (subst (λ (ls : List VType). AreBut like.overwritten.items ls locals) old.locals but));
          flag = now.flag ∙ sym (flag_on constructor (path ps e.locals) now.types now.are) ∙ sym alike ∙ flag_on constructor (path ps other.locals) old.types old.are ∙ sym old.flag;
        }

-- ---- what a state is like

pub like_near : (env : Environment) (fs : List MapFrame) (like l : Like) (pc : ℕ) (s : TypeState) → fs ≡ env.map → IsNear fs like pc l → IsLike env like.pc like.overwritten.items s → IsLike env l.pc l.overwritten.items s
like_near env fs like l pc s same near h =
    let m = near.moves h.frame h.state s.types.locals (ap (λ ms. frame_at like.pc ms) same ∙ h.at) h.is h.but in
    record {
      frame = m.frame;
      state = m.state;
      at = ap (λ n. map_at env n) near.at ∙ ap (λ ms. frame_at pc ms) (sym same) ∙ m.at;
      is = m.is;
      but = m.but;
      flag = m.flag ∙ h.flag;
    }

pub may_near : (env : Environment) (fs : List MapFrame) (like : Option Like) (old l : Like) (pc : ℕ) (s : TypeState) → fs ≡ env.map → like ≡ Some old → IsNear fs old pc l → MayBeLike env like s → MayBeLike env (Some l) s
may_near env fs like old l pc s same is near h = λ other e.
    let it : l ≡ other = cc in
    subst (λ (x : Like). IsLike env x.pc x.overwritten.items s) it (like_near env fs old l pc s same near (h old is))

-- ---- a frame that is near one that a state fits

noted_or_kept : (w : World) (os : List Overwritten) (before now locals : List VType) (i : ℕ) (b : Bool) → is_noted os i ≡ b → AreBut os now before → all_assignable w locals before ≡ true → are_assignable w os locals ≡ true
    → assignable w (type_at locals i) (type_at now i) ≡ true
noted_or_kept w os before now locals i true e but fits others = at_noted w os now locals i but.were e others
noted_or_kept w os before now locals i false e but fits others = subst (λ t. assignable w (type_at locals i) t ≡ true) (sym (but.kept i e)) (one_by_one w locals before fits i)

pub as_many_fit : (w : World) (xs ys : List VType) → all_assignable w xs ys ≡ true → length xs ≡ length ys
as_many_fit w [] [] e = refl
as_many_fit w [] (y ∷ ys) e = absurd cc
as_many_fit w (x ∷ xs) [] e = absurd cc
as_many_fit w (x ∷ xs) (y ∷ ys) e = omega (arith, as_many_fit w xs ys (second_of (assignable w x y) (all_assignable w xs ys) e))

pub fits_moved : (env : Environment) (w : World) (fs : List MapFrame) (there near : Like) (other pc : ℕ) (s : TypeState) → w ≡ env.world → fs ≡ env.map → there.pc ≡ other → there.overwritten.items ≡ [] → IsNear fs there pc near → FitsLocals env s other → are_assignable w near.overwritten.items s.types.locals ≡ true
    → FitsLocals env s pc
fits_moved env w fs there near other pc s of same at none is h others =
    let before = h.state.types.locals in
    let m = is.moves h.frame h.state before (ap (λ n. frame_at n fs) at ∙ ap (λ ms. frame_at other ms) same ∙ h.at) h.is (subst (λ (os : List Overwritten). AreBut os before before) (sym none) (none_noted before)) in
    let fit : are_assignable env.world near.overwritten.items s.types.locals ≡ true = ap (λ x. are_assignable x near.overwritten.items s.types.locals) (sym of) ∙ others in
    record {
      frame = m.frame;
      state = m.state;
      at = ap (λ ms. frame_at pc ms) (sym same) ∙ m.at;
      is = m.is;
      locals =
          all_by_number env.world s.types.locals m.state.types.locals (as_many_fit env.world s.types.locals before h.locals ∙ sym m.but.as_many)
          (λ i. noted_or_kept env.world near.overwritten.items before m.state.types.locals s.types.locals i (is_noted near.overwritten.items i) refl m.but h.locals fit);
      flag = ap (λ b. not s.this_uninit || b) m.flag ∙ h.flag;
    }
