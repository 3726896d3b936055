-- What is found among things that lie at rising pcs, from a pc on.
use Rattle.std.proofs.Common.{◌≡◌, ℕ, zero, suc, ◌+◌, ◌<◌, ◌≤◌, true, false, Bool, cond, ltb, leb, eqb, List, [], ◌∷◌, length, get_or, Option, Some, None, refl, ap, ◌∙◌, arith}
use Rattle.std.specs.Prelude.{drop, find, nat_le, nat_lt, ◌==◌, ◌&&◌, ◌||◌}
use Rattle.std.specs.List.{prefix_len}
use Rattle.std.specs.List.Sorted.{IsNonDecreasingBy}
use Rattle.std.proofs.lemmas.Bool.{ltb-true, ltb-false, leb-true, leb-false, lt-ltb, le-ltb, eqb-false, ne_eqb, and_right}
use Rattle.std.proofs.lemmas.Bool.Decides.{nat_tests}
use Rattle.verify_frames.proofs.Prefixes.{one_more}
use Rattle.verify_frames.specs.declared.frame_paths.Entry.{Entry}
use Rattle.verify_frames.specs.Entries.{Rises, first_at, first_stray, entries_behind, pc_of, stray_entry}

low_first : {A : Type 0} (pc : A → ℕ) (low : ℕ) (xs : List A) → Rises pc low xs → (k : ℕ) (d : A) → k < length xs → low ≤ pc (get_or xs k d)
low_first pc low [] h k d below = absurd (omega arith)
low_first pc low (x ∷ xs) h zero d below = h.0
low_first pc low (x ∷ xs) h (suc k) d below = omega (arith, h.0, low_first pc (pc x + 1) xs h.1 k d (omega arith))

pub rises_far : {A : Type 0} (pc : A → ℕ) (low : ℕ) (xs : List A) → Rises pc low xs → IsNonDecreasingBy pc xs
rises_far pc low [] h i j d up below = absurd (omega arith)
rises_far pc low (x ∷ xs) h zero zero d up below = omega arith
rises_far pc low (x ∷ xs) h zero (suc j) d up below = omega (arith, low_first pc (pc x + 1) xs h.1 j d (omega arith))
rises_far pc low (x ∷ xs) h (suc i) zero d up below = absurd (omega arith)
rises_far pc low (x ∷ xs) h (suc i) (suc j) d up below = rises_far pc (pc x + 1) xs h.1 i j d (omega arith) (omega arith)

abbrev Found : {A : Type 0} → (A → ℕ) → ℕ → List A → Option A
Found pc n xs = find (λ x. pc x == n) xs

none_above : {A : Type 0} (pc : A → ℕ) (n low : ℕ) (xs : List A) → Rises pc low xs → n < low → Found pc n xs ≡ None
none_above pc n low [] h above = refl
none_above pc n low (x ∷ xs) h above = grind (arith, nat_tests, h.0, none_above pc n (pc x + 1) xs h.1 (omega (arith, h.0)))

head_from : {A : Type 0} (x : A) (o : Option A) (b : Bool) → (b ≡ false → o ≡ None) → cond b (Some x) o ≡ cond b (Some x) None
head_from x o true none = refl
head_from x o false none = none refl

step_from : {A : Type 0} (pc : A → ℕ) (n : ℕ) (x : A) (xs : List A) → Rises pc (pc x + 1) xs → (b : Bool) → ltb (pc x) n ≡ b
    → Found pc n xs ≡ first_at pc n (drop (prefix_len (λ x. nat_lt (pc x) n) xs) xs)
    → Found pc n (x ∷ xs) ≡ first_at pc n (drop (cond b (1 + prefix_len (λ x. nat_lt (pc x) n) xs) 0) (x ∷ xs))
step_from pc n x xs h true below again =
    let under = ltb-true (pc x) n below in
    ap (λ t. cond t (Some x) (Found pc n xs)) (ne_eqb (pc x) n (λ same. omega arith)) ∙ again
    ∙ ap (λ k. first_at pc n (drop k (x ∷ xs))) (one_more (prefix_len (λ x. nat_lt (pc x) n) xs))
step_from pc n x xs h false below again =
    let over = ltb-false (pc x) n below in
    head_from x (Found pc n xs) (eqb (pc x) n) (λ other. none_above pc n (pc x + 1) xs h (let differs = eqb-false (pc x) n other in omega arith))

-- what lies at a pc is the first from there on
pub found_from : {A : Type 0} (pc : A → ℕ) (n low : ℕ) (xs : List A) → Rises pc low xs
    → find (λ x. pc x == n) xs ≡ first_at pc n (drop (prefix_len (λ x. nat_lt (pc x) n) xs) xs)
found_from pc n low [] h = refl
found_from pc n low (x ∷ xs) h = step_from pc n x xs h.1 (ltb (pc x) n) refl (found_from pc n (pc x + 1) xs h.1)

-- ---- the first after a pc

past : (pc next m n : ℕ) (is_last : Bool) → (is_last || ltb m next) ≡ false → m < n → (ltb pc n && (is_last || ltb n next)) ≡ false
past pc next m n true h up = absurd cc
past pc next m n false h up =
    let over = ltb-false m next h in
    and_right (ltb pc n) (ltb n next) (le-ltb n next (omega arith))

none_past : (pc next m low : ℕ) (is_last : Bool) (es : List Entry) → Rises pc_of low es → (is_last || ltb m next) ≡ false → m < low → stray_entry pc next is_last es ≡ None
none_past pc next m low is_last [] h test up = refl
none_past pc next m low is_last (e ∷ es) h test up =
    ap (λ t. cond t (Some e) (stray_entry pc next is_last es)) (past pc next m e.pc is_last test (omega (arith, h.0)))
    ∙ none_past pc next m (e.pc + 1) is_last es h.1 test (omega (arith, h.0))

head_behind : (pc next : ℕ) (is_last : Bool) (e : Entry) (es : List Entry) (b : Bool) → (b ≡ false → stray_entry pc next is_last es ≡ None)
    → cond b (Some e) (stray_entry pc next is_last es) ≡ cond b (Some e) None
head_behind pc next is_last e es true none = refl
head_behind pc next is_last e es false none = none refl

step_behind : (pc next : ℕ) (is_last : Bool) (e : Entry) (es : List Entry) → Rises pc_of (e.pc + 1) es → (b : Bool) → leb e.pc pc ≡ b
    → stray_entry pc next is_last es ≡ first_stray next is_last (entries_behind pc es)
    → stray_entry pc next is_last (e ∷ es) ≡ first_stray next is_last (drop (cond b (1 + prefix_len (λ (e : Entry). nat_le e.pc pc) es) 0) (e ∷ es))
step_behind pc next is_last e es h true low again =
    let under = leb-true e.pc pc low in
    ap (λ t. cond (t && (is_last || nat_lt e.pc next)) (Some e) (stray_entry pc next is_last es)) (le-ltb pc e.pc (omega arith)) ∙ again
    ∙ ap (λ n. first_stray next is_last (drop n (e ∷ es))) (one_more (prefix_len (λ (e : Entry). nat_le e.pc pc) es))
step_behind pc next is_last e es h false low again =
    let over = leb-false e.pc pc low in
    ap (λ t. cond (t && (is_last || nat_lt e.pc next)) (Some e) (stray_entry pc next is_last es)) (lt-ltb pc e.pc (omega arith))
    ∙ head_behind pc next is_last e es (is_last || nat_lt e.pc next) (λ test. none_past pc next e.pc (e.pc + 1) is_last es h test (omega arith))

-- the first that lies after a pc, and before the next instruction, is the first of those after the pc
pub stray_behind : (pc next : ℕ) (is_last : Bool) (low : ℕ) (es : List Entry) → Rises pc_of low es → stray_entry pc next is_last es ≡ first_stray next is_last (entries_behind pc es)
stray_behind pc next is_last low [] h = refl
stray_behind pc next is_last low (e ∷ es) h = step_behind pc next is_last e es h.1 (leb e.pc pc) refl (stray_behind pc next is_last (e.pc + 1) es h.1)
