-- Rows in the order of their starts: which of them ask something at a pc.
use Rattle.std.proofs.Common.{◌≡◌, ℕ, zero, suc, ◌<◌, ◌≤◌, min, Bool, true, false, not, List, [], ◌∷◌, length, take, drop, Option, Some, None, refl, sym, ap, subst, ◌∙◌, cond, arith, slice_index_or, ◌⊎◌, inl, inr}
use Rattle.std.specs.Prelude.{map, nat_le, nat_lt, ◌&&◌, ◌||◌}
use Rattle.std.specs.Option.{option_map_or}
use Rattle.std.specs.List.{list_all, AllWithin}
use Rattle.std.specs.List.Sorted.{IsNonDecreasingBy, IsPermutation}
use Rattle.std.proofs.lemmas.Bool.{ltb-true, ltb-false, leb-true, le-leb, le-ltb, lt-ltb, and_parts, and_from, and_cases, and_left, and_right}
use Rattle.std.proofs.lemmas.List.Sorted.{All-permutation, IsPermutation-sym}
use Rattle.std.proofs.lemmas.List.Sums.{AllPass-from_list_all, list_all-from_AllPass}
use Rattle.verify_types.specs.Environment.{Environment}
use Rattle.verify_types.specs.Calls.{covers}
use Rattle.verify_types.specs.Handlers.{is_satisfied}
use Rattle.verify_types.specs.TypeStates.{TypeState}
use Rattle.verify_code.specs.declared.guards.Guard.{Guard}
use Rattle.verify_code.specs.declared.satisfied.JudgedTwice.{JudgedTwice}
use Rattle.verify_code.specs.Guards.{guard_in, start_of}
use Rattle.verify_code.specs.Handlers.{covers_twice, keeps_more, lower_of, nearer, next_start, row_covers}

abbrev pub Passes : (Guard → Bool) → Guard → Type 0
Passes K g = K g ≡ true

all_pass : (K : Guard → Bool) (gs : List Guard) → AllWithin (Passes K) gs 0 (length gs) → true ≡ list_all K gs
all_pass K [] h = refl
all_pass K (g ∷ gs) h = all_pass K gs (λ k d from below. h (suc k) d (omega arith) (omega arith)) ∙ ap (λ b. b && list_all K gs) (sym (h 0 g (omega arith) (omega arith)))

-- what passes at the end may be left out
pub front : (K : Guard → Bool) (gs : List Guard) (n : ℕ) → AllWithin (Passes K) gs n (length gs) → list_all K (take n gs) ≡ list_all K gs
front K [] zero h = refl
front K [] (suc n) h = refl
front K (g ∷ gs) zero h = all_pass K (g ∷ gs) h
front K (g ∷ gs) (suc n) h = ap (λ b. K g && b) (front K gs n (λ k d from below. h (suc k) d (omega arith) (omega arith)))

-- and what passes at the beginning
pub behind : (K : Guard → Bool) (gs : List Guard) (n : ℕ) → n ≤ length gs → AllWithin (Passes K) gs 0 n → list_all K (drop n gs) ≡ list_all K gs
behind K [] zero low h = refl
behind K [] (suc n) low h = absurd (omega arith)
behind K (g ∷ gs) zero low h = refl
behind K (g ∷ gs) (suc n) low h = behind K gs n (omega arith) (λ k d from below. h (suc k) d (omega arith) (omega arith)) ∙ ap (λ b. b && list_all K gs) (sym (h 0 g (omega arith) (omega arith)))

-- a row that starts after the pc asks nothing there
pub asks_later : (env : Environment) (twice : Option JudgedTwice) (pc : ℕ) (s : TypeState) (g : Guard) → nat_le g.row.start pc ≡ false → keeps_more env twice pc s (guard_in g) ≡ true
asks_later env twice pc s g e = ap (λ b. not (b && nat_lt pc g.row.end) || (twice_of || is_satisfied env s (guard_in g))) e
  where
    twice_of : Bool
    twice_of = option_map_or (λ t. covers_twice t g.row) twice false

-- a row that starts at the lower of two pcs or before it covers both where it covers the pc
covers_pair : (t : JudgedTwice) (pc at : ℕ) (g : Guard) → at ≤ t.one.at → at ≤ t.other.at → t.one.at ≤ pc → t.other.at ≤ pc → g.row.start ≤ at → pc < g.row.end → covers_twice t g.row ≡ true
covers_pair t pc at g one other first second low high =
    and_from (row_covers t.one.at g.row) (row_covers t.other.at g.row)
    (and_from (nat_le g.row.start t.one.at) (nat_lt t.one.at g.row.end) (le-leb g.row.start t.one.at (omega arith)) (lt-ltb t.one.at g.row.end (omega arith)))
    (and_from (nat_le g.row.start t.other.at) (nat_lt t.other.at g.row.end) (le-leb g.row.start t.other.at (omega arith)) (lt-ltb t.other.at g.row.end (omega arith)))

asks_nothing : (b x c : Bool) → (b ≡ true → x ≡ true) → (not b || (x || c)) ≡ true
asks_nothing false x c f = refl
asks_nothing true x c f = ap (λ y. y || c) (f refl)

is_some : (b : Bool) (m at : ℕ) → cond b (Some m) None ≡ Some at → (b ≡ true) × (m ≡ at)
is_some true m at e = (refl, some_same m at e)
  where
    some_same : (x y : ℕ) → Some x ≡ Some y → x ≡ y
    some_same x y e = ap (λ o. option_map_or (λ (n : ℕ). n) o 0) e
is_some false m at e = absurd cc

pub asks_earlier : (env : Environment) (twice : Option JudgedTwice) (pc at : ℕ) (s : TypeState) (g : Guard) → lower_of twice pc ≡ Some at → nat_le g.row.start at ≡ true → keeps_more env twice pc s (guard_in g) ≡ true
asks_earlier env None pc at s g e low = absurd cc
asks_earlier env (Some t) pc at s g e low =
    let is = is_some (nat_le t.one.at pc && nat_le t.other.at pc) (min t.one.at t.other.at) at e in
    let both = and_parts (nat_le t.one.at pc) (nat_le t.other.at pc) is.0 in
    let lowest : min t.one.at t.other.at ≡ at = is.1 in
    asks_nothing (covers pc (guard_in g)) (covers_twice t g.row) (is_satisfied env s (guard_in g))
    (λ c. covers_pair t pc at g (omega (arith, lowest)) (omega (arith, lowest)) (leb-true t.one.at pc both.0) (leb-true t.other.at pc both.1) (leb-true g.row.start at low)
    (ltb-true pc g.row.end (and_parts (nat_le g.row.start pc) (nat_lt pc g.row.end) c).1))

-- ---- the order of the rows

same_truth : (a b : Bool) → (a ≡ true → b ≡ true) → (b ≡ true → a ≡ true) → a ≡ b
same_truth true b f g = sym (f refl)
same_truth false true f g = g refl
same_truth false false f g = refl

pub all_permuted : (K : Guard → Bool) (xs ys : List Guard) → IsPermutation xs ys → list_all K ys ≡ list_all K xs
all_permuted K xs ys p =
    same_truth (list_all K ys) (list_all K xs)
    (λ e. list_all-from_AllPass K xs (All-permutation (Passes K) ys xs (IsPermutation-sym xs ys p) (AllPass-from_list_all K ys e)))
    (λ e. list_all-from_AllPass K ys (All-permutation (Passes K) xs ys p (AllPass-from_list_all K xs e)))

-- ---- the next start of a row

nearer_far : (pc next start : ℕ) → next ≤ start → nearer pc next start ≡ next
nearer_far pc next start far = ap (λ b. cond b start next) (and_right (nat_lt pc start) (nat_lt start next) (le-ltb start next far))

nearer_past : (pc next start : ℕ) → start ≤ pc → nearer pc next start ≡ next
nearer_past pc next start past = ap (λ b. cond b start next) (and_left (nat_lt pc start) (nat_lt start next) (le-ltb pc start past))

nearer_first : (pc next start : ℕ) → pc < start → nearer pc next start ≤ start
nearer_first pc next start high = by_test (nat_lt pc start && nat_lt start next) refl
  where
    no_nearer : (nat_lt pc start ≡ false) ⊎ (nat_lt start next ≡ false) → next ≤ start
    no_nearer (inl e) = absurd (omega (arith, ltb-false pc start e))
    no_nearer (inr e) = ltb-false start next e

    by_test : (b : Bool) → (nat_lt pc start && nat_lt start next) ≡ b → cond b start next ≤ start
    by_test true e = omega arith
    by_test false e = no_nearer (and_cases (nat_lt pc start) (nat_lt start next) e)

all_far : (pc next : ℕ) (gs : List Guard) → ((k : ℕ) (d : Guard) → k < length gs → next ≤ (slice_index_or gs k d).row.start) → next_start pc next (map guard_in gs) ≡ next
all_far pc next [] h = refl
all_far pc next (g ∷ gs) h =
    ap (λ n. next_start pc n (map guard_in gs)) (nearer_far pc next g.row.start (h 0 g (omega arith)))
    ∙ all_far pc next gs (λ k d lt. h (suc k) d (omega arith))

-- rows that start at the pc or before it may be left out
pub past_skipped : (pc next : ℕ) (gs : List Guard) (n : ℕ) → n ≤ length gs → AllWithin (λ (g : Guard). nat_le g.row.start pc ≡ true) gs 0 n
    → next_start pc next (map guard_in gs) ≡ next_start pc next (map guard_in (drop n gs))
past_skipped pc next [] zero low h = refl
past_skipped pc next (g ∷ gs) zero low h = refl
past_skipped pc next [] (suc n) low h = absurd (omega arith)
past_skipped pc next (g ∷ gs) (suc n) low h =
    ap (λ m. next_start pc m (map guard_in gs)) (nearer_past pc next g.row.start (leb-true g.row.start pc (h 0 g (omega arith) (omega arith))))
    ∙ past_skipped pc next gs n (omega arith) (λ k d a b. h (suc k) d (omega arith) (omega arith))

-- of rows in order the first decides
pub first_decides : (pc next : ℕ) (g : Guard) (gs : List Guard) → pc < g.row.start → IsNonDecreasingBy start_of (g ∷ gs) → next_start pc next (map guard_in (g ∷ gs)) ≡ nearer pc next g.row.start
first_decides pc next g gs high up =
    all_far pc (nearer pc next g.row.start) gs
    (λ k d lt. let far : g.row.start ≤ (slice_index_or gs k d).row.start = up 0 (suc k) d (omega arith) (omega arith) in omega (arith, far, nearer_first pc next g.row.start high))

pub rises_behind : (gs : List Guard) (n : ℕ) → IsNonDecreasingBy start_of gs → IsNonDecreasingBy start_of (drop n gs)
rises_behind [] zero up = up
rises_behind [] (suc n) up = up
rises_behind (g ∷ gs) zero up = up
rises_behind (g ∷ gs) (suc n) up = rises_behind gs n (λ i j d le lt. up (suc i) (suc j) d (omega arith) (omega arith))

pub first_behind : (P : Guard → Type 0) (gs : List Guard) (n : ℕ) (g : Guard) (rest : List Guard) → drop n gs ≡ g ∷ rest → AllWithin P gs n (length gs) → P g
first_behind P [] zero g rest e h = absurd cc
first_behind P [] (suc n) g rest e h = absurd cc
first_behind P (x ∷ gs) zero g rest e h = subst P (ap (λ (l : List Guard). slice_index_or l 0 x) e) (h 0 x (omega arith) (omega arith))
first_behind P (x ∷ gs) (suc n) g rest e h = first_behind P gs n g rest e (λ k d a b. h (suc k) d (omega arith) (omega arith))
