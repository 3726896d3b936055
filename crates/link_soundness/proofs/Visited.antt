-- All that is above a class is met when its superclasses and superinterfaces are gone through (JVMS 5.3.5).
use Rattle.std.proofs.Common.{◌≡◌, ◌⊎◌, inl, inr, ℕ, zero, suc, ◌+◌, ◌<◌, ◌≤◌, Bool, true, false, cond, List, [], ◌∷◌, ◌++◌, length, length-append, Some, refl, ap, sym, subst, ◌∙◌, arith}
use Rattle.std.specs.Prelude.{nat_lt, ◌==◌}
use Rattle.std.specs.Option.{option_to_list}
use Rattle.std.proofs.lemmas.Bool.{eqb-true, ltb-true, ltb-false}
use Rattle.std.proofs.lemmas.Bool.Decides.{nat_tests}
use Rattle.link_rules.specs.Program.{Program}
use Rattle.link_rules.specs.Hierarchy.{directs, edges, interfaces_in, interfaces_of, is_among, is_below, parent_of, supers, visit}
use Rattle.link_resolution.proofs.HierarchyLaws.{class_at_none, no_parent, supers_here}
use Rattle.link_soundness.proofs.Among.{among_either, among_front, among_itself, among_left, among_one, among_right, other_among}
use Rattle.link_soundness.proofs.Chains.{up, up_holds}

-- ---- how much is left to do: what is directly above the first n classes, those aside that were met

abbrev left_over : (ℕ → List ℕ) → List ℕ → ℕ → ℕ
left_over above seen zero = 0
left_over above seen (suc n) = left_over above seen n + cond (is_among seen n) 0 (length (above n))

all_left : (p : Program) (n : ℕ) → left_over (directs p) [] n ≡ edges p n
all_left p zero = refl
all_left p (suc n) = ap (λ k. k + length (directs p n)) (all_left p n)

-- a class that isn't among the first n changes nothing
left_as_before : (above : ℕ → List ℕ) (seen : List ℕ) (c n : ℕ) → n ≤ c → left_over above (seen ++ c ∷ []) n ≡ left_over above seen n
left_as_before above seen c zero high = refl
left_as_before above seen c (suc n) high =
    let low : n ≤ c = omega arith in
    ap (λ k. k + cond (is_among (seen ++ c ∷ []) n) 0 (length (above n))) (left_as_before above seen c n low)
    ∙ ap (λ b. left_over above seen n + cond b 0 (length (above n))) (other_among seen c n (other high))
  where
    other : suc n ≤ c → (c == n) ≡ false
    other high = grind (arith, nat_tests)

less_left : (above : ℕ → List ℕ) (seen : List ℕ) (c n : ℕ) → is_among seen c ≡ false → c < n
    → left_over above (seen ++ c ∷ []) n + length (above c) ≡ left_over above seen n
less_left above seen c zero new low = absurd (omega arith)
less_left above seen c (suc n) new low = by (c == n) refl (λ less. less_left above seen c n new less)
  where
    after : List ℕ
    after = seen ++ c ∷ []

    itself : (k j l m : ℕ) (a b : Bool) → k ≡ j → l ≡ m → a ≡ true → b ≡ false → k + cond a 0 l + m ≡ j + cond b 0 l
    itself k j l m true false e f g h = omega arith
    itself k j l m true true e f g h = absurd cc
    itself k j l m false b e f g h = absurd cc

    another : (k j m x y : ℕ) → k + m ≡ j → x ≡ y → k + x + m ≡ j + y
    another k j m x y e f = omega arith

    less : (c == n) ≡ false → c < n
    less e = grind (arith, nat_tests)

    by : (b : Bool) → (c == n) ≡ b → (c < n → left_over above after n + length (above c) ≡ left_over above seen n)
        → left_over above after n + cond (is_among after n) 0 (length (above n)) + length (above c)
        ≡ left_over above seen n + cond (is_among seen n) 0 (length (above n))
    by true is more =
        let same : c ≡ n = eqb-true c n is in
        let high : n ≤ c = omega arith in
        itself (left_over above after n) (left_over above seen n) (length (above n)) (length (above c)) (is_among after n) (is_among seen n)
        (left_as_before above seen c n high) (ap (λ k. length (above k)) (sym same))
        (among_right seen (c ∷ []) n (ap (is_among (c ∷ [])) (sym same) ∙ among_itself c)) (ap (is_among seen) (sym same) ∙ new)
    by false is more =
        another (left_over above after n) (left_over above seen n) (length (above c)) (cond (is_among after n) 0 (length (above n)))
        (cond (is_among seen n) 0 (length (above n))) (more (less is))
        (ap (λ b. cond b 0 (length (above n))) (other_among seen c n is))

-- ---- the classes that are met

-- They are all that was met before, all that was to do, and what is directly above each of them.
record IsVisit (above : ℕ → List ℕ) (todo seen all : List ℕ) : Type 0 where
  pub kept : (x : ℕ) → is_among seen x ≡ true → is_among all x ≡ true
  pub done : (x : ℕ) → is_among todo x ≡ true → is_among all x ≡ true
  pub closed : (x y : ℕ) → is_among all x ≡ true → is_among (above x) y ≡ true → is_among all y ≡ true

-- what is directly above a class that was met was met too, or is to do
abbrev IsPending : (ℕ → List ℕ) → List ℕ → List ℕ → Type 0
IsPending above todo seen = (x y : ℕ) → is_among seen x ≡ true → is_among (above x) y ≡ true → (is_among seen y ≡ true) ⊎ (is_among todo y ≡ true)

nothing_to_do : (above : ℕ → List ℕ) (seen : List ℕ) → IsPending above [] seen → IsVisit above [] seen seen
nothing_to_do above seen pending = record {
  kept = λ x e. e;
  done = λ x e. absurd cc;
  closed = λ x y e f. by y (pending x y e f);
}
  where
    by : (y : ℕ) → (is_among seen y ≡ true) ⊎ (is_among [] y ≡ true) → is_among seen y ≡ true
    by y (inl e) = e
    by y (inr e) = absurd cc

-- a class that was met before
pending_again : (above : ℕ → List ℕ) (c : ℕ) (todo seen : List ℕ) → is_among seen c ≡ true → IsPending above (c ∷ todo) seen → IsPending above todo seen
pending_again above c todo seen met pending = λ x y e f. by y (pending x y e f)
  where
    front : (y : ℕ) → (c ≡ y) ⊎ (is_among todo y ≡ true) → (is_among seen y ≡ true) ⊎ (is_among todo y ≡ true)
    front y (inl same) = inl (subst (λ d. is_among seen d ≡ true) same met)
    front y (inr behind) = inr behind

    by : (y : ℕ) → (is_among seen y ≡ true) ⊎ (is_among (c ∷ todo) y ≡ true) → (is_among seen y ≡ true) ⊎ (is_among todo y ≡ true)
    by y (inl e) = inl e
    by y (inr e) = front y (among_front c todo y e)

visit_again : (above : ℕ → List ℕ) (c : ℕ) (todo seen all : List ℕ) → is_among seen c ≡ true → IsVisit above todo seen all → IsVisit above (c ∷ todo) seen all
visit_again above c todo seen all met h = record { kept = h.kept; done = λ x e. by x (among_front c todo x e); closed = h.closed }
  where
    by : (x : ℕ) → (c ≡ x) ⊎ (is_among todo x ≡ true) → is_among all x ≡ true
    by x (inl same) = h.kept x (subst (λ d. is_among seen d ≡ true) same met)
    by x (inr behind) = h.done x behind

-- a class that is new
pending_new : (above : ℕ → List ℕ) (c : ℕ) (todo seen : List ℕ) → IsPending above (c ∷ todo) seen → IsPending above (above c ++ todo) (seen ++ c ∷ [])
pending_new above c todo seen pending = λ x y e f. by x y f (among_either seen (c ∷ []) x e)
  where
    Found : ℕ → Type 0
    Found y = (is_among (seen ++ c ∷ []) y ≡ true) ⊎ (is_among (above c ++ todo) y ≡ true)

    front : (y : ℕ) → (c ≡ y) ⊎ (is_among todo y ≡ true) → Found y
    front y (inl same) = inl (among_right seen (c ∷ []) y (subst (λ d. is_among (c ∷ []) d ≡ true) same (among_itself c)))
    front y (inr behind) = inr (among_right (above c) todo y behind)

    old : (y : ℕ) → (is_among seen y ≡ true) ⊎ (is_among (c ∷ todo) y ≡ true) → Found y
    old y (inl e) = inl (among_left seen (c ∷ []) y e)
    old y (inr e) = front y (among_front c todo y e)

    by : (x y : ℕ) → is_among (above x) y ≡ true → (is_among seen x ≡ true) ⊎ (is_among (c ∷ []) x ≡ true) → Found y
    by x y f (inl e) = old y (pending x y e f)
    by x y f (inr e) = inr (among_left (above c) todo y (subst (λ d. is_among (above d) y ≡ true) (sym (among_one c x e)) f))

visit_new : (above : ℕ → List ℕ) (c : ℕ) (todo seen all : List ℕ) → IsVisit above (above c ++ todo) (seen ++ c ∷ []) all → IsVisit above (c ∷ todo) seen all
visit_new above c todo seen all h = record {
  kept = λ x e. h.kept x (among_left seen (c ∷ []) x e);
  done = λ x e. by x (among_front c todo x e);
  closed = h.closed;
}
  where
    by : (x : ℕ) → (c ≡ x) ⊎ (is_among todo x ≡ true) → is_among all x ≡ true
    by x (inl same) = h.kept x (among_right seen (c ∷ []) x (subst (λ d. is_among (c ∷ []) d ≡ true) same (among_itself c)))
    by x (inr behind) = h.done x (among_right (above c) todo x behind)

-- a step for each class to do, and for each that is directly above a new one, is enough
enough_new : (above : ℕ → List ℕ) (size c n : ℕ) (todo seen : List ℕ) → ((d : ℕ) → size ≤ d → above d ≡ []) → is_among seen c ≡ false
    → suc (length todo) + left_over above seen size ≤ suc n → length (above c ++ todo) + left_over above (seen ++ c ∷ []) size ≤ n
enough_new above size c n todo seen outside new enough = by (nat_lt c size) refl
  where
    parts : length (above c ++ todo) ≡ length (above c) + length todo
    parts = simp length-append

    sums : (a b d k j m : ℕ) → a ≡ b + d → k + b ≡ j → suc d + j ≤ suc m → a + k ≤ m
    sums a b d k j m e f g = omega arith

    before : size ≤ c → left_over above (seen ++ c ∷ []) size + length (above c) ≡ left_over above seen size
    before high =
        let none : length (above c) ≡ 0 = ap length (outside c high) in
        let same = left_as_before above seen c size high in
        ap (λ k. k + length (above c)) same ∙ ap (λ k. left_over above seen size + k) none ∙ no_more (left_over above seen size)
      where
        no_more : (k : ℕ) → k + 0 ≡ k
        no_more k = omega arith

    by : (b : Bool) → nat_lt c size ≡ b → length (above c ++ todo) + left_over above (seen ++ c ∷ []) size ≤ n
    by true is =
        sums (length (above c ++ todo)) (length (above c)) (length todo) (left_over above (seen ++ c ∷ []) size) (left_over above seen size) n
        parts (less_left above seen c size new (ltb-true c size is)) enough
    by false is =
        sums (length (above c ++ todo)) (length (above c)) (length todo) (left_over above (seen ++ c ∷ []) size) (left_over above seen size) n
        parts (before (ltb-false c size is)) enough

visited : (above : ℕ → List ℕ) (size : ℕ) → ((d : ℕ) → size ≤ d → above d ≡ []) → (n : ℕ) (todo seen : List ℕ)
    → length todo + left_over above seen size ≤ n → IsPending above todo seen → IsVisit above todo seen (visit above n todo seen)
visited above size outside zero [] seen enough pending = nothing_to_do above seen pending
visited above size outside zero (c ∷ todo) seen enough pending = absurd (omega arith)
visited above size outside (suc n) [] seen enough pending = nothing_to_do above seen pending
visited above size outside (suc n) (c ∷ todo) seen enough pending =
    by (is_among seen c) refl
    (λ met. visited above size outside n todo seen (omega arith) (pending_again above c todo seen met pending))
    (λ new. visited above size outside n (above c ++ todo) (seen ++ c ∷ []) (enough_new above size c n todo seen outside new enough)
    (pending_new above c todo seen pending))
  where
    by : (b : Bool) → is_among seen c ≡ b → (is_among seen c ≡ true → IsVisit above todo seen (visit above n todo seen))
        → (is_among seen c ≡ false → IsVisit above (above c ++ todo) (seen ++ c ∷ []) (visit above n (above c ++ todo) (seen ++ c ∷ [])))
        → IsVisit above (c ∷ todo) seen (cond b (visit above n todo seen) (visit above n (above c ++ todo) (seen ++ c ∷ [])))
    by true is again fresh = visit_again above c todo seen (visit above n todo seen) is (again is)
    by false is again fresh = visit_new above c todo seen (visit above n (above c ++ todo) (seen ++ c ∷ [])) (fresh is)

-- ---- what is above a class

no_directs : (p : Program) (c : ℕ) → length p.classes ≤ c → directs p c ≡ []
no_directs p c h = ap (λ xs. xs ++ option_to_list (parent_of p c)) (class_at_none (interfaces_in p) [] p c h) ∙ ap option_to_list (no_parent p c h)

supers_visited : (p : Program) (c : ℕ) → c < length p.classes → IsVisit (directs p) (c ∷ []) [] (supers p c)
supers_visited p c low =
    let all : left_over (directs p) [] (length p.classes) ≡ edges p (length p.classes) = all_left p (length p.classes) in
    subst (IsVisit (directs p) (c ∷ []) []) (sym (supers_here p c low))
    (visited (directs p) (length p.classes) (no_directs p) (edges p (length p.classes) + 1) (c ∷ []) [] (omega arith) (λ x y e f. absurd cc))

parent_among : (p : Program) (x y : ℕ) → parent_of p x ≡ Some y → is_among (directs p x) y ≡ true
parent_among p x y e =
    among_right (interfaces_of p x) (option_to_list (parent_of p x)) y (ap (λ o. is_among (option_to_list o) y) e ∙ among_itself y)

-- a class is below each of its superclasses
pub up_below : (p : Program) (k c d : ℕ) → c < length p.classes → up (parent_of p) k c ≡ Some d → is_below p c d ≡ true
up_below p k c d low is =
    let h = supers_visited p c low in
    up_holds (λ x. is_among (supers p c) x ≡ true) (parent_of p) (λ x y met e. h.closed x y met (parent_among p x y e)) k c d
    (h.done c (among_itself c)) is
