-- Local variables whose types are those of objects that aren't initialized: their slots are listed.
use Rattle.std.proofs.Common.{◌≡◌, ℕ, zero, suc, ◌+◌, ◌<◌, ◌≤◌, Bool, true, false, cond, eqb, ltb, List, [], ◌∷◌, ◌++◌, length, set, refl, ap, sym, subst, ◌∙◌, arith}
use Rattle.std.specs.Prelude.{◌&&◌, ◌||◌, not}
use Rattle.std.proofs.lemmas.Bool.{eq-eqb, eqb-true, eqb-false, ltb-true, ltb-false}
use Rattle.std.proofs.lemmas.List.{length-set, get_or-set_same, get_or-set_other}
use Rattle.std.proofs.lemmas.List.Folds.{list_any-append}
use Rattle.stack_maps.specs.declared.types.VType.{VType}
use Rattle.stack_maps.specs.declared.types.VType.TheVariants as types
use Rattle.verify_types.specs.TypeStates.{replaced}
use Rattle.verify_instructions.specs.declared.state.Uninitialized.{Uninitialized}
use Rattle.verify_instructions.specs.declared.state.Uninitialized.TheVariants as objects
use Rattle.verify_instructions.specs.Unfinished.{AreListed, is_listed, is_unfinished, listing, replaced_among, replaced_at, type_at}
use Rattle.verify_instructions.specs.Views.{is_object}

-- ---- one by one, by their numbers

pub same_by_number : (xs ys : List VType) → length xs ≡ length ys → ((i : ℕ) → type_at xs i ≡ type_at ys i) → xs ≡ ys
same_by_number [] [] e h = refl
same_by_number [] (y ∷ ys) e h = absurd (omega arith)
same_by_number (x ∷ xs) [] e h = absurd (omega arith)
same_by_number (x ∷ xs) (y ∷ ys) e h = ap (λ z. z ∷ xs) (h zero) ∙ ap (λ zs. y ∷ zs) (same_by_number xs ys (omega arith) (λ i. h (suc i)))

pub type_past : (xs : List VType) (i : ℕ) → length xs ≤ i → type_at xs i ≡ types.Top
type_past [] i high = refl
type_past (x ∷ xs) zero high = absurd (omega arith)
type_past (x ∷ xs) (suc i) high = type_past xs i (omega arith)

-- ---- slots that are listed

more : (slots : List ℕ) (n k : ℕ) (b : Bool) → is_listed slots k ≡ true → is_listed (cond b (slots ++ n ∷ []) slots) k ≡ true
more slots n k true e = list_any-append (λ m. eqb m k) slots (n ∷ []) ∙ ap (λ b. b || (eqb n k || false)) e
more slots n k false e = e

last : (slots : List ℕ) (n : ℕ) → is_listed (slots ++ n ∷ []) n ≡ true
last slots n = list_any-append (λ m. eqb m n) slots (n ∷ []) ∙ ap (λ b. is_listed slots n || (b || false)) (eq-eqb n n refl) ∙ either (is_listed slots n)
  where
    either : (a : Bool) → (a || (true || false)) ≡ true
    either true = refl
    either false = refl

now : (slots : List ℕ) (n : ℕ) (t was : Bool) → t ≡ true → (was ≡ true → is_listed slots n ≡ true) → is_listed (cond (t && not was) (slots ++ n ∷ []) slots) n ≡ true
now slots n true true e h = h refl
now slots n true false e h = last slots n
now slots n false was e h = absurd cc

pub still_listed : (slots : List ℕ) (n k : ℕ) (was t : VType) → is_listed slots k ≡ true → is_listed (listing n was t slots) k ≡ true
still_listed slots n k was t e = more slots n k (is_unfinished t && not (is_unfinished was)) e

pub now_listed : (slots : List ℕ) (n : ℕ) (was t : VType) → is_unfinished t ≡ true → (is_unfinished was ≡ true → is_listed slots n ≡ true) → is_listed (listing n was t slots) n ≡ true
now_listed slots n was t e h = now slots n (is_unfinished t) (is_unfinished was) e h

-- the same list, or one slot more
pub listed_still : (slots now : List ℕ) (ls after : List VType) (n : ℕ) (was t : VType) → now ≡ listing n was t slots → after ≡ ls → AreListed slots ls → AreListed now after
listed_still slots now ls after n was t listed same h =
    subst (λ us. AreListed now us) (sym same) (subst (λ ss. AreListed ss ls) (sym listed) (record { all = λ k is. still_listed slots n k was t (h.all k is) }))

-- the slots below one are listed, and so are those below the next
pub listed_next : (slots now : List ℕ) (ls : List VType) (n : ℕ) → now ≡ listing n types.Top (type_at ls n) slots → ((k : ℕ) → k < n → is_unfinished (type_at ls k) ≡ true → is_listed slots k ≡ true)
    → (k : ℕ) → k < n + 1 → is_unfinished (type_at ls k) ≡ true → is_listed now k ≡ true
listed_next slots now ls n listed h k low is = subst (λ ss. is_listed ss k ≡ true) (sym listed) (by_test (eqb n k) refl)
  where
    below : (n k : ℕ) → k < n + 1 → (n ≡ k → ⊥) → k < n
    below n k low ne = omega arith

    by_test : (b : Bool) → eqb n k ≡ b → is_listed (listing n types.Top (type_at ls n) slots) k ≡ true
    by_test true e =
        let same = eqb-true n k e in
        subst (λ m. is_listed (listing n types.Top (type_at ls n) slots) m ≡ true) same
        (now_listed slots n types.Top (type_at ls n) (ap (λ m. is_unfinished (type_at ls m)) same ∙ is) (λ e. absurd cc))
    by_test false e = still_listed slots n k types.Top (type_at ls n) (h k (below n k low (eqb-false n k e)) is)

-- all slots are listed
pub listed_all : (slots : List ℕ) (ls : List VType) (n : ℕ) → length ls ≤ n → ((k : ℕ) → k < n → is_unfinished (type_at ls k) ≡ true → is_listed slots k ≡ true) → AreListed slots ls
listed_all slots ls n high h = record { all = λ k is. by_place k (ltb k n) refl is }
  where
    by_place : (k : ℕ) (b : Bool) → ltb k n ≡ b → is_unfinished (type_at ls k) ≡ true → is_listed slots k ≡ true
    by_place k true e is = h k (ltb-true k n e) is
    by_place k false e is =
        let none : is_unfinished (type_at ls k) ≡ false = ap is_unfinished (type_past ls k (omega (arith, ltb-false k n e))) in
        absurd cc

-- ---- a slot that is written

pub set_listed : (slots : List ℕ) (ls : List VType) (n : ℕ) (t : VType) → n < length ls → AreListed slots ls → AreListed (listing n (type_at ls n) t slots) (set ls n t)
set_listed slots ls n t low h = record { all = λ k. by_test k (eqb n k) refl }
  where
    by_test : (k : ℕ) (b : Bool) → eqb n k ≡ b → is_unfinished (type_at (set ls n t) k) ≡ true → is_listed (listing n (type_at ls n) t slots) k ≡ true
    by_test k true e is =
        let same = eqb-true n k e in
        let here = subst (λ m. is_unfinished (type_at (set ls n t) m) ≡ true) (sym same) is in
        subst (λ m. is_listed (listing n (type_at ls n) t slots) m ≡ true) same
        (now_listed slots n (type_at ls n) t (ap is_unfinished (sym (get_or-set_same ls n t types.Top low)) ∙ here) (h.all n))
    by_test k false e is =
        still_listed slots n k (type_at ls n) t (h.all k (ap is_unfinished (sym (get_or-set_other ls n k t types.Top (λ s. eqb-false n k e (sym s)))) ∙ is))

-- it becomes listed
pub written_listed : (slots now : List ℕ) (n : ℕ) (was t : VType) → now ≡ listing n was t slots → (ls : List VType) → n < length ls → type_at ls n ≡ was → AreListed slots ls → AreListed now (set ls n t)
written_listed slots now n was t listed ls low here h =
    subst (λ ss. AreListed ss (set ls n t)) (ap (λ x. listing n x t slots) here ∙ sym listed) (set_listed slots ls n t low h)

-- it is listed already
pub among_listed : (slots : List ℕ) (n : ℕ) (t : VType) → is_listed slots n ≡ true → (ls : List VType) → n < length ls → AreListed slots ls → AreListed slots (set ls n t)
among_listed slots n t there ls low h = record { all = λ k is. by_test k (eqb n k) refl is }
  where
    by_test : (k : ℕ) (b : Bool) → eqb n k ≡ b → is_unfinished (type_at (set ls n t) k) ≡ true → is_listed slots k ≡ true
    by_test k true e is = subst (λ m. is_listed slots m ≡ true) (eqb-true n k e) there
    by_test k false e is = h.all k (ap is_unfinished (sym (get_or-set_other ls n k t types.Top (λ s. eqb-false n k e (sym s)))) ∙ is)

pub unset_listed : (slots : List ℕ) (ls : List VType) (n : ℕ) → n < length ls → AreListed slots ls → AreListed slots (set ls n types.Top)
unset_listed slots ls n low h = set_listed slots ls n types.Top low h

-- ---- an object that gets another type

pub no_object : (object : Uninitialized) → is_object object types.Top ≡ false
no_object objects.This = refl
no_object (objects.New pc) = refl

pub object_unfinished : (object : Uninitialized) (t : VType) → is_object object t ≡ true → is_unfinished t ≡ true
object_unfinished object types.UninitThis e = refl
object_unfinished object (types.Uninit pc) e = refl
object_unfinished objects.This types.Top e = absurd cc
object_unfinished objects.This types.Int e = absurd cc
object_unfinished objects.This types.Float e = absurd cc
object_unfinished objects.This types.Double e = absurd cc
object_unfinished objects.This types.Long e = absurd cc
object_unfinished objects.This types.Null e = absurd cc
object_unfinished objects.This (types.Object index) e = absurd cc
object_unfinished objects.This (types.Named n b) e = absurd cc
object_unfinished (objects.New pc) types.Top e = absurd cc
object_unfinished (objects.New pc) types.Int e = absurd cc
object_unfinished (objects.New pc) types.Float e = absurd cc
object_unfinished (objects.New pc) types.Double e = absurd cc
object_unfinished (objects.New pc) types.Long e = absurd cc
object_unfinished (objects.New pc) types.Null e = absurd cc
object_unfinished (objects.New pc) (types.Object index) e = absurd cc
object_unfinished (objects.New pc) (types.Named n b) e = absurd cc

abbrev Either : (VType → Bool) → VType → Bool → VType → VType
Either test t b x = cond (b && test x) t x

same_either : (b : Bool) (t : VType) → cond b t t ≡ t
same_either true t = refl
same_either false t = refl

never : (b : Bool) → (b && false) ≡ false
never true = refl
never false = refl

-- at the number of the slot and at another
at_slot : (test : VType → Bool) (t : VType) (slot k : ℕ) (ls : List VType) → test types.Top ≡ false → type_at (replaced_at test t slot ls) k ≡ Either test t (eqb slot k) (type_at ls k)
at_slot test t slot k ls top = by_tests (eqb slot k) (test (type_at ls slot)) refl refl
  where
    is_there : (b : Bool) → ltb slot (length ls) ≡ b → test (type_at ls slot) ≡ true → slot < length ls
    is_there true e is = ltb-true slot (length ls) e
    is_there false e is =
        let past : type_at ls slot ≡ types.Top = type_past ls slot (ltb-false slot (length ls) e) in
        let other : test (type_at ls slot) ≡ false = ap test past ∙ top in
        absurd cc

    by_tests : (b p : Bool) → eqb slot k ≡ b → test (type_at ls slot) ≡ p → type_at (cond p (set ls slot t) ls) k ≡ Either test t b (type_at ls k)
    by_tests true true e is =
        let same = eqb-true slot k e in
        let low = is_there (ltb slot (length ls)) refl is in
        subst (λ m. type_at (set ls slot t) m ≡ Either test t true (type_at ls m)) same (get_or-set_same ls slot t types.Top low ∙ ap (λ b. cond b t (type_at ls slot)) (sym is))
    by_tests true false e is =
        let same = eqb-true slot k e in
        subst (λ m. type_at ls m ≡ Either test t true (type_at ls m)) same (ap (λ b. cond b t (type_at ls slot)) (sym is))
    by_tests false true e is = get_or-set_other ls slot k t types.Top (λ s. eqb-false slot k e (sym s))
    by_tests false false e is = refl

joined : (test : VType → Bool) (t x : VType) (a b p : Bool) → test x ≡ p → Either test t b (Either test t a x) ≡ Either test t (a || b) x
joined test t x true b true e = ap (λ q. Either test t b (cond q t x)) e ∙ same_either (b && test t) t ∙ ap (λ q. cond q t x) (sym e)
joined test t x true b false e = ap (λ q. Either test t b (cond q t x)) e ∙ ap (λ q. cond (b && q) t x) e ∙ ap (λ q. cond q t x) (never b) ∙ ap (λ q. cond q t x) (sym e)
joined test t x false b p e = refl

at_each : (test : VType → Bool) (t : VType) (slots : List ℕ) (k : ℕ) (ls : List VType) → test types.Top ≡ false → type_at (replaced_among test t slots ls) k ≡ Either test t (is_listed slots k) (type_at ls k)
at_each test t [] k ls top = refl
at_each test t (slot ∷ slots) k ls top =
    at_each test t slots k (replaced_at test t slot ls) top
    ∙ ap (λ x. Either test t (is_listed slots k) x) (at_slot test t slot k ls top)
    ∙ joined test t (type_at ls k) (eqb slot k) (is_listed slots k) (test (type_at ls k)) refl

at_all : (test : VType → Bool) (t : VType) (k : ℕ) (ls : List VType) → test types.Top ≡ false → type_at (replaced test t ls) k ≡ Either test t true (type_at ls k)
at_all test t k [] top = ap (λ b. cond b t types.Top) (sym top)
at_all test t zero (x ∷ ls) top = refl
at_all test t (suc k) (x ∷ ls) top = at_all test t k ls top

as_many_at : (test : VType → Bool) (t : VType) (slot : ℕ) (ls : List VType) (b : Bool) → length (cond b (set ls slot t) ls) ≡ length ls
as_many_at test t slot ls true = length-set ls slot t
as_many_at test t slot ls false = refl

as_many : (test : VType → Bool) (t : VType) (slots : List ℕ) (ls : List VType) → length (replaced_among test t slots ls) ≡ length ls
as_many test t [] ls = refl
as_many test t (slot ∷ slots) ls = as_many test t slots (replaced_at test t slot ls) ∙ as_many_at test t slot ls (test (type_at ls slot))

all_as_many : (test : VType → Bool) (t : VType) (ls : List VType) → length (replaced test t ls) ≡ length ls
all_as_many test t [] = refl
all_as_many test t (x ∷ ls) = omega (arith, all_as_many test t ls)

pub among_as_many : (object : Uninitialized) (t : VType) (slots : List ℕ) (ls : List VType) → length (replaced_among (is_object object) t slots ls) ≡ length ls
among_as_many object t slots ls = as_many (is_object object) t slots ls

same_there : (test : VType → Bool) (t x : VType) (b p : Bool) → test x ≡ p → (p ≡ true → b ≡ true) → Either test t b x ≡ Either test t true x
same_there test t x true p e h = refl
same_there test t x false true e h = let other : false ≡ true = h refl in absurd cc
same_there test t x false false e h = ap (λ q. cond q t x) (sym e)

-- it is enough to look at the slots that are listed
pub replaced_listed : (object : Uninitialized) (t : VType) (slots : List ℕ) (ls : List VType) → AreListed slots ls → replaced_among (is_object object) t slots ls ≡ replaced (is_object object) t ls
replaced_listed object t slots ls h =
    let test = is_object object in
    same_by_number (replaced_among test t slots ls) (replaced test t ls) (as_many test t slots ls ∙ sym (all_as_many test t ls)) (λ k.
    at_each test t slots k ls (no_object object)
    ∙ same_there test t (type_at ls k) (is_listed slots k) (test (type_at ls k)) refl (λ is. h.all k (object_unfinished object (type_at ls k) is))
    ∙ sym (at_all test t k ls (no_object object)))

-- they are listed still
pub listed_after : (object : Uninitialized) (t : VType) (slots : List ℕ) (ls : List VType) → AreListed slots ls → AreListed slots (replaced_among (is_object object) t slots ls)
listed_after object t slots ls h =
    let test = is_object object in
    record { all = λ k is. by_test k (test (type_at ls k)) refl (ap is_unfinished (sym (at_each test t slots k ls (no_object object))) ∙ is) }
  where
    by_test : (k : ℕ) (p : Bool) → is_object object (type_at ls k) ≡ p → is_unfinished (Either (is_object object) t (is_listed slots k) (type_at ls k)) ≡ true → is_listed slots k ≡ true
    by_test k true e is = h.all k (object_unfinished object (type_at ls k) e)
    by_test k false e is =
        let stays : Either (is_object object) t (is_listed slots k) (type_at ls k) ≡ type_at ls k = ap (λ q. cond (is_listed slots k && q) t (type_at ls k)) e ∙ ap (λ q. cond q t (type_at ls k)) (never (is_listed slots k)) in
        h.all k (ap is_unfinished (sym stays) ∙ is)

-- the others stay as they are
pub replaced_same : (object : Uninitialized) (t : VType) (ls : List VType) (k : ℕ) → is_unfinished (type_at ls k) ≡ false → type_at ls k ≡ type_at (replaced (is_object object) t ls) k
replaced_same object t ls k e = sym (at_all (is_object object) t k ls (no_object object) ∙ stays (is_object object (type_at ls k)) refl)
  where
    stays : (p : Bool) → is_object object (type_at ls k) ≡ p → cond p t (type_at ls k) ≡ type_at ls k
    stays true is = let other : is_unfinished (type_at ls k) ≡ true = object_unfinished object (type_at ls k) is in absurd cc
    stays false is = refl

pub replaced_as_many : (object : Uninitialized) (t : VType) (ls : List VType) → length ls ≡ length (replaced (is_object object) t ls)
replaced_as_many object t ls = sym (all_as_many (is_object object) t ls)
