-- Operand stacks with the objects on them that aren't initialized.
use Rattle.std.proofs.Common.{◌≡◌, ℕ, zero, suc, ◌+◌, ◌<◌, ◌≤◌, Bool, true, false, cond, eqb, ltb, get_or, take, List, [], ◌∷◌, ◌++◌, length, Option, Some, refl, ap, sym, subst, ◌∙◌, arith}
use Rattle.std.specs.Prelude.{◌||◌}
use Rattle.std.specs.Option.{option_to_list}
use Rattle.std.specs.List.{list_any}
use Rattle.std.proofs.lemmas.Bool.{eqb-true, eqb-false, ltb-true, ltb-false}
use Rattle.std.proofs.lemmas.List.{get_or_append_left, length-append}
use Rattle.std.proofs.lemmas.List.Folds.{list_any-append, list_any_more}
use Rattle.std.proofs.Math.Seq.{get_or-append_seam}
use Rattle.stack_maps.specs.declared.types.VType.{VType}
use Rattle.stack_maps.specs.declared.types.VType.TheVariants as types
use Rattle.verify_types.specs.TypeStates.{is_new, replaced}
use Rattle.verify_instructions.specs.declared.state.Uninitialized.{Uninitialized}
use Rattle.verify_instructions.specs.Marks.{AreMarked, AreMarkedWhere}
use Rattle.verify_instructions.specs.Unfinished.{AreListed, is_listed, is_unfinished, listing, type_at}
use Rattle.verify_instructions.specs.Views.{is_object}
use Rattle.verify_instructions.proofs.LocalLaws.{no_object, now_listed, object_unfinished, still_listed, type_past}

-- ---- a slot after the others, or off

at_end : (ls : List VType) (t : VType) → type_at (ls ++ t ∷ []) (length ls) ≡ t
at_end ls t = get_or-append_seam ls t [] types.Top

pub pushed_listed : (slots : List ℕ) (ls : List VType) (t : VType) → AreListed slots ls → AreListed (listing (length ls) types.Top t slots) (ls ++ t ∷ [])
pushed_listed slots ls t h = record { all = λ k is. by_place k (ltb k (length ls)) refl is }
  where
    by_end : (k : ℕ) → length ls ≤ k → (b : Bool) → eqb (length ls) k ≡ b → is_unfinished (type_at (ls ++ t ∷ []) k) ≡ true → is_listed (listing (length ls) types.Top t slots) k ≡ true
    by_end k high true e is =
        let same = eqb-true (length ls) k e in
        let here = subst (λ n. is_unfinished (type_at (ls ++ t ∷ []) n) ≡ true) (sym same) is in
        subst (λ n. is_listed (listing (length ls) types.Top t slots) n ≡ true) same
        (now_listed slots (length ls) types.Top t (ap is_unfinished (sym (at_end ls t)) ∙ here) (λ e. absurd cc))
    by_end k high false e is =
        let other = eqb-false (length ls) k e in
        let past : type_at (ls ++ t ∷ []) k ≡ types.Top = type_past (ls ++ t ∷ []) k (omega (arith, length-append ls (t ∷ []), beyond (length ls) k high other)) in
        let none : is_unfinished (type_at (ls ++ t ∷ []) k) ≡ false = ap is_unfinished past in
        absurd cc
      where
        beyond : (n k : ℕ) → n ≤ k → (n ≡ k → ⊥) → n < k
        beyond n k low ne = omega arith

    by_place : (k : ℕ) (b : Bool) → ltb k (length ls) ≡ b → is_unfinished (type_at (ls ++ t ∷ []) k) ≡ true → is_listed (listing (length ls) types.Top t slots) k ≡ true
    by_place k true e is =
        still_listed slots (length ls) k types.Top t (h.all k (ap is_unfinished (sym (get_or_append_left ls (t ∷ []) types.Top k (ltb-true k (length ls) e))) ∙ is))
    by_place k false e is = by_end k (ltb-false k (length ls) e) (eqb (length ls) k) refl is

pub push_listed : (slots now : List ℕ) (ls after : List VType) (n : ℕ) (t : VType) → n ≡ length ls → now ≡ listing n types.Top t slots → after ≡ ls ++ t ∷ [] → AreListed slots ls → AreListed now after
push_listed slots now ls after n t size listed pushed h =
    subst (λ us. AreListed now us) (sym pushed)
    (subst (λ ss. AreListed ss (ls ++ t ∷ [])) (sym (listed ∙ ap (λ m. listing m types.Top t slots) size)) (pushed_listed slots ls t h))

pub popped_listed : (slots : List ℕ) (ls : List VType) (t : VType) → AreListed slots (ls ++ t ∷ []) → AreListed slots ls
popped_listed slots ls t h = record { all = λ k is. by_place k (ltb k (length ls)) refl is }
  where
    by_place : (k : ℕ) (b : Bool) → ltb k (length ls) ≡ b → is_unfinished (type_at ls k) ≡ true → is_listed slots k ≡ true
    by_place k true e is = h.all k (ap is_unfinished (get_or_append_left ls (t ∷ []) types.Top k (ltb-true k (length ls) e)) ∙ is)
    by_place k false e is =
        let none : is_unfinished (type_at ls k) ≡ false = ap is_unfinished (type_past ls k (ltb-false k (length ls) e)) in
        absurd cc

-- a slot that isn't there comes off the list
off : (slots : List ℕ) (n k : ℕ) → (n ≡ k → ⊥) → is_listed (slots ++ n ∷ []) k ≡ true → is_listed slots k ≡ true
off slots n k other e = by_last (is_listed slots k) (eqb n k) refl refl
  where
    by_last : (a b : Bool) → is_listed slots k ≡ a → eqb n k ≡ b → is_listed slots k ≡ true
    by_last true b is same = is
    by_last false true is same = absurd (other (eqb-true n k same))
    by_last false false is same =
        let neither : is_listed (slots ++ n ∷ []) k ≡ false = list_any-append (λ m. eqb m k) slots (n ∷ []) ∙ ap (λ a. a || (eqb n k || false)) is ∙ ap (λ b. b || false) same in
        absurd cc

pub unlisted : (slots now : List ℕ) (ls : List VType) (n : ℕ) → slots ≡ now ++ n ∷ [] → length ls ≡ n → AreListed slots ls → AreListed now ls
unlisted slots now ls n e past h = record { all = λ k is. off now n k (λ same. not_there k same is) (subst (λ (xs : List ℕ). is_listed xs k ≡ true) e (h.all k is)) }
  where
    not_there : (k : ℕ) → n ≡ k → is_unfinished (type_at ls k) ≡ true → ⊥
    not_there k same is =
        let none : is_unfinished (type_at ls k) ≡ false = ap is_unfinished (type_past ls k (omega (arith, past, same))) in
        let both : true ≡ false = sym is ∙ none in
        absurd cc

-- the last of a list, and those before it
pub last_off : (old now : List ℕ) (r : Option ℕ) (last slot : ℕ) → r ≡ Some last → last ≡ slot → old ≡ now ++ option_to_list r → old ≡ now ++ slot ∷ []
last_off old now r last slot is same h = h ∙ ap (λ o. now ++ option_to_list o) is ∙ ap (λ n. now ++ n ∷ []) same

-- ---- among the slots that are listed

or_true : (b : Bool) → (b || true) ≡ true
or_true true = refl
or_true false = refl

some_first : (test : VType → Bool) (ls : List VType) (slots : List ℕ) (slot k : ℕ) (b : Bool) → eqb slot k ≡ b → (b || is_listed slots k) ≡ true → test (type_at ls k) ≡ true → (is_listed slots k ≡ true → list_any (λ n. test (type_at ls n)) slots ≡ true)
    → (test (type_at ls slot) || list_any (λ n. test (type_at ls n)) slots) ≡ true
some_first test ls slots slot k true same more is rest = ap (λ n. test (type_at ls n) || list_any (λ m. test (type_at ls m)) slots) (eqb-true slot k same) ∙ ap (λ b. b || list_any (λ m. test (type_at ls m)) slots) is
some_first test ls slots slot k false same more is rest = ap (λ b. test (type_at ls slot) || b) (rest more) ∙ or_true (test (type_at ls slot))

some_at : (test : VType → Bool) (ls : List VType) (slots : List ℕ) (k : ℕ) → is_listed slots k ≡ true → test (type_at ls k) ≡ true → list_any (λ n. test (type_at ls n)) slots ≡ true
some_at test ls [] k e is = absurd cc
some_at test ls (slot ∷ slots) k e is = some_first test ls slots slot k (eqb slot k) refl e is (λ more. some_at test ls slots k more is)

any_at : (test : VType → Bool) (ls : List VType) (k : ℕ) → test types.Top ≡ false → test (type_at ls k) ≡ true → list_any test ls ≡ true
any_at test [] k top is = absurd cc
any_at test (x ∷ ls) zero top is = ap (λ b. b || list_any test ls) is
any_at test (x ∷ ls) (suc k) top is = ap (λ b. test x || b) (any_at test ls k top is) ∙ or_true (test x)

record IsAt (test : VType → Bool) (ls : List VType) : Type 0 where
  place : ℕ
  is : test (type_at ls place) ≡ true

place_first : (test : VType → Bool) (x : VType) (ls : List VType) (b : Bool) → test x ≡ b → (b || list_any test ls) ≡ true → (list_any test ls ≡ true → IsAt test ls) → IsAt test (x ∷ ls)
place_first test x ls true is more rest = record { place = zero; is = is }
place_first test x ls false is more rest = let there = rest more in record { place = suc there.place; is = there.is }

place_of : (test : VType → Bool) (ls : List VType) → list_any test ls ≡ true → IsAt test ls
place_of test [] e = absurd cc
place_of test (x ∷ ls) e = place_first test x ls (test x) refl e (λ more. place_of test ls more)

of_first : (test : VType → Bool) (ls : List VType) (slots : List ℕ) (slot : ℕ) (b : Bool) → test types.Top ≡ false → test (type_at ls slot) ≡ b → (b || list_any (λ n. test (type_at ls n)) slots) ≡ true → (list_any (λ n. test (type_at ls n)) slots ≡ true → list_any test ls ≡ true) → list_any test ls ≡ true
of_first test ls slots slot true top is more rest = any_at test ls slot top is
of_first test ls slots slot false top is more rest = rest more

some_of : (test : VType → Bool) (ls : List VType) (slots : List ℕ) → test types.Top ≡ false → list_any (λ n. test (type_at ls n)) slots ≡ true → list_any test ls ≡ true
some_of test ls [] top e = absurd cc
some_of test ls (slot ∷ slots) top e = of_first test ls slots slot (test (type_at ls slot)) top refl e (λ more. some_of test ls slots top more)

same_test : (a b : Bool) → (a ≡ true → b ≡ true) → (b ≡ true → a ≡ true) → a ≡ b
same_test true true f g = refl
same_test true false f g = sym (f refl)
same_test false true f g = g refl
same_test false false f g = refl

pub any_listed : (object : Uninitialized) (slots : List ℕ) (ls : List VType) → AreListed slots ls → list_any (λ n. is_object object (type_at ls n)) slots ≡ list_any (is_object object) ls
any_listed object slots ls h =
    let test = is_object object in
    same_test (list_any (λ n. test (type_at ls n)) slots) (list_any test ls)
    (λ e. some_of test ls slots (no_object object) e)
    (λ e. let there = place_of test ls e in some_at test ls slots there.place (h.all there.place (object_unfinished object (type_at ls there.place) there.is)) there.is)

-- ---- marks of objects

pub marked_none : (m : Bool) (made : List Bool) → AreMarkedWhere m [] made
marked_none m made = record { all = λ is pc e. absurd cc }

pub marked_whole : (m : Bool) (ls : List VType) (made : List Bool) → AreMarked ls made → AreMarkedWhere m ls made
marked_whole m ls made h = record { all = λ is pc e. h.all pc e }

pub not_yet : (m : Bool) (ls : List VType) (made : List Bool) → m ≡ false → AreMarkedWhere m ls made
not_yet m ls made none = record { all = λ is pc e. absurd cc }

either_new : (a b : Bool) (P : Type 0) → (a || b) ≡ true → (a ≡ true → P) → (b ≡ true → P) → P
either_new true b P e f g = f refl
either_new false b P e f g = g e

-- the types so far, and one more
pub marked_next : (ts : List VType) (i : ℕ) (d t : VType) (made now : List Bool) → i < length ts → t ≡ get_or ts i d → AreMarked (take i ts) made → ((pc : ℕ) → get_or made pc false ≡ true → get_or now pc false ≡ true)
    → ((pc : ℕ) → is_new pc t ≡ true → get_or now pc false ≡ true) → AreMarked (take (i + 1) ts) now
marked_next ts i d t made now low is h kept marked = record {
  all = λ pc e.
      either_new (list_any (is_new pc) (take i ts)) (is_new pc (get_or ts i d)) (get_or now pc false ≡ true) (sym (list_any_more (is_new pc) ts i d low) ∙ e)
      (λ x. kept pc (h.all pc x)) (λ x. marked pc (ap (is_new pc) is ∙ x));
}

pub marked_more : (m : Bool) (ls : List VType) (t : VType) (made now : List Bool) → AreMarkedWhere m ls made → ((pc : ℕ) → get_or made pc false ≡ true → get_or now pc false ≡ true) → (m ≡ true → (pc : ℕ) → is_new pc t ≡ true → get_or now pc false ≡ true) → AreMarkedWhere m (ls ++ t ∷ []) now
marked_more m ls t made now h kept marked = record {
  all = λ is pc e.
      either_new (list_any (is_new pc) ls) (is_new pc t || false) (get_or now pc false ≡ true) (sym (list_any-append (is_new pc) ls (t ∷ [])) ∙ e)
      (λ x. kept pc (h.all is pc x)) (λ x. either_new (is_new pc t) false (get_or now pc false ≡ true) x (λ y. marked is pc y) (λ y. absurd cc));
}

pub marked_kept : (m : Bool) (ls : List VType) (made now : List Bool) → AreMarkedWhere m ls made → ((pc : ℕ) → get_or made pc false ≡ true → get_or now pc false ≡ true) → AreMarkedWhere m ls now
marked_kept m ls made now h kept = record { all = λ is pc e. kept pc (h.all is pc e) }

pub marked_less : (m : Bool) (ls : List VType) (t : VType) (made : List Bool) → AreMarkedWhere m (ls ++ t ∷ []) made → AreMarkedWhere m ls made
marked_less m ls t made h = record { all = λ is pc e. h.all is pc (list_any-append (is_new pc) ls (t ∷ []) ∙ ap (λ b. b || (is_new pc t || false)) e) }

replaced_first : (q : VType → Bool) (t x : VType) (ls : List VType) (P : Type 0) (b : Bool) → q (cond b t x) ≡ true → (list_any q (x ∷ ls) ≡ true → P) → (q t ≡ true → P) → P
replaced_first q t x ls P true first f g = g first
replaced_first q t x ls P false first f g = f (ap (λ b. b || list_any q ls) first)

any_replaced : (q test : VType → Bool) (t : VType) (ls : List VType) (P : Type 0) → list_any q (replaced test t ls) ≡ true → (list_any q ls ≡ true → P) → (q t ≡ true → P) → P
any_replaced q test t [] P e f g = absurd cc
any_replaced q test t (x ∷ ls) P e f g =
    either_new (q (cond (test x) t x)) (list_any q (replaced test t ls)) P e
    (λ first. replaced_first q t x ls P (test x) first f g)
    (λ more. any_replaced q test t ls P more (λ is. f (ap (λ b. q x || b) is ∙ or_true (q x))) g)

pub marked_replaced : (m : Bool) (test : VType → Bool) (ls : List VType) (t : VType) (made now : List Bool) → AreMarkedWhere m ls made → ((pc : ℕ) → get_or made pc false ≡ true → get_or now pc false ≡ true) → (m ≡ true → (pc : ℕ) → is_new pc t ≡ true → get_or now pc false ≡ true)
    → AreMarkedWhere m (replaced test t ls) now
marked_replaced m test ls t made now h kept marked = record { all = λ is pc e. any_replaced (is_new pc) test t ls (get_or now pc false ≡ true) e (λ x. kept pc (h.all is pc x)) (λ x. marked is pc x) }

-- ---- an object that isn't marked

pub not_marked : (m : Bool) (ls : List VType) (made : List Bool) (pc : ℕ) → AreMarkedWhere m ls made → m ≡ true → get_or made pc false ≡ false → list_any (is_new pc) ls ≡ false
not_marked m ls made pc h is none = by_any (list_any (is_new pc) ls) refl
  where
    by_any : (b : Bool) → list_any (is_new pc) ls ≡ b → b ≡ false
    by_any false e = refl
    by_any true e = let marked = h.all is pc e in absurd cc
