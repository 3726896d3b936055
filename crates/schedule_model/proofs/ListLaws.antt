-- How often a thread is in the lists that an entry makes.
use Rattle.std.proofs.Common.{◌≡◌, ◌+◌, ◌<◌, ◌≤◌, ◌==◌, ℕ, zero, suc, Bool, true, false, List, [], ◌∷◌, sym, ◌∙◌, ap, subst, refl, arith, cond, inl, inr}
use Rattle.std.specs.List.{filter, range_with_len}
use Rattle.std.proofs.lemmas.Bool.{cases_Bool}
use Rattle.std.proofs.lemmas.Bool.Decides.{eqb_tells}
use Rattle.thread_lists.specs.Lists.{count}
use Rattle.thread_lists.proofs.CountLaws.{count-append, count-cons, count-other, count-same}
use Rattle.schedule_model.specs.Look.{Look}
use Rattle.schedule_model.specs.Puts.{all_threads, beginning_with, by_deadline, insert_by_deadline, is_earlier, sort_by_deadline}

-- a filter leaves a thread where it passes, and takes it out where it doesn't
pub count-filter_yes : (t : ℕ) (p : ℕ → Bool) (xs : List ℕ) → p t ≡ true → count t (filter p xs) ≡ count t xs
count-filter_yes t p [] e = refl
count-filter_yes t p (x ∷ xs) e =
    elim (cases_Bool (p x)) [
      | inl w ↦ ap (λ b. count t (cond b (x ∷ filter p xs) (filter p xs))) w ∙ count-cons t x (filter p xs) ∙ ap (λ n. cond (x == t) 1 0 + n) (count-filter_yes t p xs e) ∙ sym (count-cons t x xs)
      | inr w ↦
          let other : x ≡ t → ⊥ = λ i. absurd (no_both (p t) e (subst (λ y. p y ≡ false) i w)) in
          ap (λ b. count t (cond b (x ∷ filter p xs) (filter p xs))) w ∙ count-filter_yes t p xs e ∙ sym (count-other t x xs other)
    ]
  where
    no_both : (b : Bool) → b ≡ true → b ≡ false → ⊥
    no_both b i j = absurd cc

pub count-filter_no : (t : ℕ) (p : ℕ → Bool) (xs : List ℕ) → p t ≡ false → count t (filter p xs) ≡ 0
count-filter_no t p [] e = refl
count-filter_no t p (x ∷ xs) e =
    elim (cases_Bool (p x)) [
      | inl w ↦
          let other : x ≡ t → ⊥ = λ i. absurd (no_both (p t) (subst (λ y. p y ≡ true) i w) e) in
          ap (λ b. count t (cond b (x ∷ filter p xs) (filter p xs))) w ∙ count-other t x (filter p xs) other ∙ count-filter_no t p xs e
      | inr w ↦ ap (λ b. count t (cond b (x ∷ filter p xs) (filter p xs))) w ∙ count-filter_no t p xs e
    ]
  where
    no_both : (b : Bool) → b ≡ true → b ≡ false → ⊥
    no_both b i j = absurd cc

pub count-filter_le : (t : ℕ) (p : ℕ → Bool) (xs : List ℕ) → count t (filter p xs) ≤ count t xs
count-filter_le t p xs =
    elim (cases_Bool (p t)) [
      | inl e ↦ omega (arith, count-filter_yes t p xs e)
      | inr e ↦ omega (arith, count-filter_no t p xs e)
    ]

-- ---- orders of all threads

pub count-range_below : (t a n : ℕ) → t < a → count t (range_with_len a n) ≡ 0
count-range_below t a zero h = refl
count-range_below t a (suc n) h =
    count-other t a (range_with_len (a + 1) n) (λ i. absurd (omega (arith, i))) ∙ count-range_below t (a + 1) n (omega arith)

pub count-range_once : (t a n : ℕ) → a ≤ t → t < a + n → count t (range_with_len a n) ≡ 1
count-range_once t a zero h k = absurd (omega arith)
count-range_once t a (suc n) h k =
    elim (eqb_tells a t) [
      | inl w ↦
          let here : count a (a ∷ range_with_len (a + 1) n) ≡ 1 =
          count-same a (range_with_len (a + 1) n) ∙ ap (λ m. 1 + m) (count-range_below a (a + 1) n (omega arith)) in
          subst (λ x. count x (a ∷ range_with_len (a + 1) n) ≡ 1) w.1 here
      | inr w ↦ count-other t a (range_with_len (a + 1) n) w.1 ∙ count-range_once t (a + 1) n (omega (arith, w.1)) (omega arith)
    ]

pub count-range_le : (t a n : ℕ) → count t (range_with_len a n) ≤ 1
count-range_le t a zero = omega arith
count-range_le t a (suc n) =
    elim (eqb_tells a t) [
      | inl w ↦
          let here : count a (a ∷ range_with_len (a + 1) n) ≤ 1 =
          omega (arith, count-same a (range_with_len (a + 1) n), count-range_below a (a + 1) n (omega arith)) in
          subst (λ x. count x (a ∷ range_with_len (a + 1) n) ≤ 1) w.1 here
      | inr w ↦ omega (arith, count-other t a (range_with_len (a + 1) n) w.1, count-range_le t (a + 1) n)
    ]

-- each thread that was made is in the list once, and no number twice
pub record IsOrder (l : Look) (order : List ℕ) : Type 0 where
  pub once : (t : ℕ) → t < l.threads → count t order ≡ 1
  pub most : (t : ℕ) → count t order ≤ 1

pub all_in_order : (l : Look) → IsOrder l (all_threads l)
all_in_order l =
    record {
      once = λ t h. count-range_once t 0 l.threads (omega arith) (omega arith);
      most = λ t. count-range_le t 0 l.threads;
    }

count-insert : (l : Look) (t x : ℕ) (xs : List ℕ) → count t (insert_by_deadline l x xs) ≡ count t (x ∷ xs)
count-insert l t x [] = refl
count-insert l t x (y ∷ ys) =
    elim (cases_Bool (is_earlier l x y)) [
      | inl e ↦ ap (λ b. count t (cond b (x ∷ y ∷ ys) (y ∷ insert_by_deadline l x ys))) e
      | inr e ↦
          let inner = count-insert l t x ys in
          let same : count t (y ∷ insert_by_deadline l x ys) ≡ count t (x ∷ y ∷ ys) =
          omega (arith, count-cons t y (insert_by_deadline l x ys), inner, count-cons t x ys, count-cons t x (y ∷ ys), count-cons t y ys) in
          ap (λ b. count t (cond b (x ∷ y ∷ ys) (y ∷ insert_by_deadline l x ys))) e ∙ same
    ]

count-sort : (l : Look) (t : ℕ) (xs : List ℕ) → count t (sort_by_deadline l xs) ≡ count t xs
count-sort l t [] = refl
count-sort l t (x ∷ xs) =
    omega (arith, count-insert l t x (sort_by_deadline l xs), count-cons t x (sort_by_deadline l xs), count-cons t x xs, count-sort l t xs)

pub by_deadline_in_order : (before after : Look) → IsOrder after (by_deadline before after)
by_deadline_in_order before after =
    let all = all_in_order after in
    record {
      once = λ t h. count-sort before t (all_threads after) ∙ all.once t h;
      most = λ t. omega (arith, count-sort before t (all_threads after), all.most t);
    }

count-beginning : (t : ℕ) (first : List ℕ) (l : Look) → count t first ≤ 1 →
    ((t < l.threads) → count t (beginning_with first l) ≡ 1) × (count t (beginning_with first l) ≤ 1)
count-beginning t first l le =
    let joined = count-append t first (filter (λ u. count u first == 0) (all_threads l)) in
    let all = all_in_order l in
    elim (eqb_tells (count t first) 0) [
      | inl w ↦
          let rest = count-filter_yes t (λ u. count u first == 0) (all_threads l) w.0 in
          (λ h. omega (arith, joined, rest, all.once t h, w.1), omega (arith, joined, rest, all.most t, w.1))
      | inr w ↦
          let rest = count-filter_no t (λ u. count u first == 0) (all_threads l) w.0 in
          (λ h. omega (arith, joined, rest, w.1, le), omega (arith, joined, rest, le))
    ]

pub beginning_in_order : (first : List ℕ) (l : Look) → ((t : ℕ) → count t first ≤ 1) → IsOrder l (beginning_with first l)
beginning_in_order first l le =
    record {
      once = λ t h. (count-beginning t first l (le t)).0 h;
      most = λ t. (count-beginning t first l (le t)).1;
    }
