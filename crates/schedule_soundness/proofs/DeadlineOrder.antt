-- Threads by their deadlines, then by their numbers: those of all threads that pass a test, and those of a list that is sorted so.
use Rattle.std.proofs.Common.{◌≡◌, ◌≢◌, ◌⊎◌, inl, inr, ◌==◌, ◌+◌, ◌<◌, ◌≤◌, ℕ, suc, Bool, true, false, List, [], ◌∷◌, length, map, Option, Some, None, refl, ap, sym, subst, ◌∙◌, ◌&&◌, ◌||◌, arith, cond}
use Rattle.std.specs.Prelude.{nat_lt, slice_index_or}
use Rattle.std.specs.List.{All, filter}
use Rattle.std.specs.List.Sorted.{IsSorted, IsSortedBy}
use Rattle.std.specs.Ordering.{is_lt, nat_cmp, ordering_then}
use Rattle.std.specs.declared.cmp.Ordering.TheVariants.{Less, Equal, Greater}
use Rattle.std.proofs.lemmas.Bool.{and_from, and_parts, cases_Bool, cases_order, eq-eqb, eqb-true, false_from_ne_true, lt-ltb, ltb-false, ltb-true, or_cases, or_left, or_right}
use Rattle.std.proofs.lemmas.Bool.Decides.{eqb_tells}
use Rattle.std.proofs.lemmas.List.{get_or-map, length-map}
use Rattle.thread_lists.specs.Lists.{count}
use Rattle.thread_lists.proofs.CountLaws.{count-here, count-other, count-same, count-there}
use Rattle.schedule_model.specs.Look.{Look}
use Rattle.schedule_model.specs.Puts.{all_threads, by_deadline, insert_by_deadline, is_before, is_earlier, sort_by_deadline}
use Rattle.schedule_model.proofs.ListLaws.{IsOrder, by_deadline_in_order, count-filter_le, count-filter_no, count-filter_yes}

-- ---- the order

-- a deadline and a number are before others
abbrev IsLess : ℕ → ℕ → ℕ → ℕ → Type 0
IsLess a b t u = (a < b) ⊎ ((a ≡ b) × (t < u))

less_of : (a b t u : ℕ) → is_before (Some a) (Some b) (nat_lt t u) ≡ true → IsLess a b t u
less_of a b t u e =
    elim (or_cases (nat_lt a b) ((a == b) && nat_lt t u) e) [
      | inl low ↦ inl (ltb-true a b low)
      | inr same ↦ let parts = and_parts (a == b) (nat_lt t u) same in inr (eqb-true a b parts.0, ltb-true t u parts.1)
    ]

is_less : (a b t u : ℕ) → IsLess a b t u → is_before (Some a) (Some b) (nat_lt t u) ≡ true
is_less a b t u (inl low) = or_left (nat_lt a b) ((a == b) && nat_lt t u) (lt-ltb a b low)
is_less a b t u (inr same) =
    or_right (nat_lt a b) ((a == b) && nat_lt t u) (and_from (a == b) (nat_lt t u) (eq-eqb a b same.0) (lt-ltb t u same.1))

less_trans : (a b c t u v : ℕ) → IsLess a b t u → IsLess b c u v → IsLess a c t v
less_trans a b c t u v (inl low) (inl high) = inl (omega arith)
less_trans a b c t u v (inl low) (inr same) = inl (omega (arith, same.0))
less_trans a b c t u v (inr same) (inl high) = inl (omega (arith, same.0))
less_trans a b c t u v (inr same) (inr also) = inr (same.0 ∙ also.0, omega (arith, same.1, also.1))

before_trans : (a b c : Option ℕ) (t u v : ℕ) → is_before a b (nat_lt t u) ≡ true → is_before b c (nat_lt u v) ≡ true
    → is_before a c (nat_lt t v) ≡ true
before_trans None None None t u v e f = lt-ltb t v (omega (arith, ltb-true t u e, ltb-true u v f))
before_trans None None (Some c) t u v e f = absurd cc
before_trans None (Some b) c t u v e f = absurd cc
before_trans (Some a) None None t u v e f = refl
before_trans (Some a) None (Some c) t u v e f = absurd cc
before_trans (Some a) (Some b) None t u v e f = refl
before_trans (Some a) (Some b) (Some c) t u v e f = is_less a c t v (less_trans a b c t u v (less_of a b t u e) (less_of b c u v f))

before_self : (a : Option ℕ) (t : ℕ) → is_before a a (nat_lt t t) ≡ true → ⊥
before_self None t e = absurd (omega (arith, ltb-true t t e))
before_self (Some a) t e =
    elim (less_of a a t t e) [
      | inl low ↦ absurd (omega (arith, low))
      | inr same ↦ absurd (omega (arith, same.1))
    ]

before_total : (a b : Option ℕ) (t u : ℕ) → t ≢ u → is_before a b (nat_lt t u) ≡ false → is_before b a (nat_lt u t) ≡ true
before_total None None t u apart e = lt-ltb u t (omega (arith, apart, ltb-false t u e))
before_total None (Some b) t u apart e = refl
before_total (Some a) None t u apart e = absurd cc
before_total (Some a) (Some b) t u apart e =
    elim (cases_order a b) [
      | inl same ↦
          elim (cases_order t u) [
            | inl equal ↦ absurd (apart equal)
            | inr (inl low) ↦ absurd (no_both _ (is_less a b t u (inr (same, low))) e)
            | inr (inr high) ↦ is_less b a u t (inr (sym same, high))
          ]
      | inr (inl low) ↦ absurd (no_both _ (is_less a b t u (inl low)) e)
      | inr (inr high) ↦ is_less b a u t (inl high)
    ]
  where
    no_both : (b : Bool) → b ≡ true → b ≡ false → ⊥
    no_both b i j = absurd cc

module _ (l : Look) where
  earlier_trans : (t u v : ℕ) → is_earlier l t u ≡ true → is_earlier l u v ≡ true → is_earlier l t v ≡ true
  earlier_trans t u v e f = before_trans (l.deadline t) (l.deadline u) (l.deadline v) t u v e f

  earlier_self : (t : ℕ) → is_earlier l t t ≡ true → ⊥
  earlier_self t e = before_self (l.deadline t) t e

  later_off : (t u : ℕ) → is_earlier l t u ≡ true → is_earlier l u t ≡ false
  later_off t u e = false_from_ne_true (is_earlier l u t) (λ f. earlier_self t (earlier_trans t u t e f))

  -- ---- lists in which no thread is earlier than the one before it

  abbrev After : ℕ → List ℕ → Type 0
  After x [] = Unit {0}
  After x (y ∷ ys) = is_earlier l y x ≡ false

  abbrev Up : List ℕ → Type 0
  Up [] = Unit {0}
  Up (x ∷ xs) = After x xs × Up xs

  insert_after : (t x : ℕ) (xs : List ℕ) → is_earlier l t x ≡ false → After x xs → After x (insert_by_deadline l t xs)
  insert_after t x [] off first = off
  insert_after t x (y ∷ ys) off first =
      elim (cases_Bool (is_earlier l t y)) [
        | inl e ↦ subst (λ b. After x (cond b (t ∷ y ∷ ys) (y ∷ insert_by_deadline l t ys))) (sym e) off
        | inr e ↦ subst (λ b. After x (cond b (t ∷ y ∷ ys) (y ∷ insert_by_deadline l t ys))) (sym e) first
      ]

  insert_up : (t : ℕ) (xs : List ℕ) → Up xs → Up (insert_by_deadline l t xs)
  insert_up t [] up = (tt, tt)
  insert_up t (x ∷ xs) up =
      elim (cases_Bool (is_earlier l t x)) [
        | inl e ↦ subst (λ b. Up (cond b (t ∷ x ∷ xs) (x ∷ insert_by_deadline l t xs))) (sym e) (later_off t x e, up)
        | inr e ↦
            subst (λ b. Up (cond b (t ∷ x ∷ xs) (x ∷ insert_by_deadline l t xs))) (sym e)
            (insert_after t x xs e up.0, insert_up t xs up.1)
      ]

  sort_up : (xs : List ℕ) → Up (sort_by_deadline l xs)
  sort_up [] = tt
  sort_up (x ∷ xs) = insert_up x (sort_by_deadline l xs) (sort_up xs)

  sorted_up : (xs : List ℕ) → IsSortedBy (is_earlier l) xs → Up xs
  sorted_up [] sorted = tt
  sorted_up (x ∷ []) sorted = (tt, tt)
  sorted_up (x ∷ y ∷ ys) sorted = (
    sorted 0 0 (omega arith) (omega arith),
    sorted_up (y ∷ ys) (λ k d low high. next k d (omega arith) (sorted (suc k) d (omega arith) (omega arith))),
  )
    where
      next : (k d : ℕ) → suc k + 1 ≡ suc (k + 1)
          → is_earlier l (slice_index_or (x ∷ y ∷ ys) (suc k + 1) d) (slice_index_or (x ∷ y ∷ ys) (suc k) d) ≡ false
          → is_earlier l (slice_index_or (y ∷ ys) (k + 1) d) (slice_index_or (y ∷ ys) k d) ≡ false
      next k d e off = subst (λ n. is_earlier l (slice_index_or (x ∷ y ∷ ys) n d) (slice_index_or (y ∷ ys) k d) ≡ false) e off

  -- ---- lists in which each thread is earlier than all behind it

  abbrev Ordered : List ℕ → Type 0
  Ordered [] = Unit {0}
  Ordered (x ∷ xs) = ((u : ℕ) → 0 < count u xs → is_earlier l x u ≡ true) × Ordered xs

  -- no thread is in the list twice
  abbrev Once : List ℕ → Type 0
  Once xs = (t : ℕ) → count t xs ≤ 1

  once_behind : (x : ℕ) (xs : List ℕ) → Once (x ∷ xs) → Once xs
  once_behind x xs once t =
      elim (eqb_tells x t) [
        | inl here ↦ let h : count t (t ∷ xs) ≤ 1 = subst (λ y. count t (y ∷ xs) ≤ 1) here.1 (once t) in omega (arith, h, count-same t xs)
        | inr other ↦ omega (arith, once t, count-other t x xs other.1)
      ]

  ahead : (x : ℕ) (xs : List ℕ) → Once (x ∷ xs) → After x xs → Ordered xs → (u : ℕ) → 0 < count u xs → is_earlier l x u ≡ true
  ahead x [] once first up u there = absurd (omega (arith, there))
  ahead x (y ∷ ys) once first up u there =
      elim (eqb_tells y u) [
        | inl here ↦ subst (λ z. is_earlier l x z ≡ true) here.1 next
        | inr other ↦ earlier_trans x y u next (up.0 u (omega (arith, there, count-other u y ys other.1)))
      ]
    where
      apart : y ≡ x → ⊥
      apart same =
          let twice : count x (x ∷ x ∷ ys) ≤ 1 = subst (λ z. count x (x ∷ z ∷ ys) ≤ 1) same (once x) in
          absurd (omega (arith, twice, count-same x (x ∷ ys), count-here x ys))

      next : is_earlier l x y ≡ true
      next = before_total (l.deadline y) (l.deadline x) y x apart first

  ordered : (xs : List ℕ) → Once xs → Up xs → Ordered xs
  ordered [] once up = tt
  ordered (x ∷ xs) once up =
      let rest = ordered xs (once_behind x xs once) up.1 in
      (ahead x xs once up.0 rest, rest)

  filter_ordered : (p : ℕ → Bool) (xs : List ℕ) → Ordered xs → Ordered (filter p xs)
  filter_ordered p [] up = tt
  filter_ordered p (x ∷ xs) up =
      elim (cases_Bool (p x)) [
        | inl e ↦
            subst (λ b. Ordered (cond b (x ∷ filter p xs) (filter p xs))) (sym e)
            (λ u there. up.0 u (omega (arith, there, count-filter_le u p xs)), filter_ordered p xs up.1)
        | inr e ↦ subst (λ b. Ordered (cond b (x ∷ filter p xs) (filter p xs))) (sym e) (filter_ordered p xs up.1)
      ]

  -- ---- such a list is the only one of its threads

  behind : (u y : ℕ) (ys : List ℕ) → 0 < count u (y ∷ ys) → (y ≡ u → ⊥) → 0 < count u ys
  behind u y ys there apart = omega (arith, there, count-other u y ys apart)

  same_first : (x y : ℕ) (xs ys : List ℕ) → Ordered (x ∷ xs) → Ordered (y ∷ ys) → 0 < count x (y ∷ ys) → 0 < count y (x ∷ xs) → x ≡ y
  same_first x y xs ys up also in_ys in_xs =
      elim (eqb_tells x y) [
        | inl same ↦ same.1
        | inr other ↦
            let first = up.0 y (behind y x xs in_xs other.1) in
            let second = also.0 x (behind x y ys in_ys (λ e. other.1 (sym e))) in
            absurd (earlier_self x (earlier_trans x y x first second))
      ]

  one_order : (xs ys : List ℕ) → Ordered xs → Ordered ys → ((u : ℕ) → 0 < count u xs → 0 < count u ys)
      → ((u : ℕ) → 0 < count u ys → 0 < count u xs) → xs ≡ ys
  one_order [] [] up also these those = refl
  one_order [] (y ∷ ys) up also these those = absurd (let z : 0 < count y [] = those y (count-here y ys) in omega arith)
  one_order (x ∷ xs) [] up also these those = absurd (let z : 0 < count x [] = these x (count-here x xs) in omega arith)
  one_order (x ∷ xs) (y ∷ ys) up also these those =
      ap (λ z. z ∷ xs) first
      ∙ ap (λ zs. y ∷ zs) (one_order xs ys up.1 also.1
      (λ u there. behind u y ys (these u (count-there u x xs there)) (λ e. not_behind x xs up u there (first ∙ e)))
      (λ u there. behind u x xs (those u (count-there u y ys there)) (λ e. not_behind y ys also u there (sym first ∙ e))))
    where
      first : x ≡ y
      first = same_first x y xs ys up also (these x (count-here x xs)) (those y (count-here y ys))

      not_behind : (z : ℕ) (zs : List ℕ) → Ordered (z ∷ zs) → (u : ℕ) → 0 < count u zs → z ≡ u → ⊥
      not_behind z zs order u there same = earlier_self z (order.0 z (subst (λ n. 0 < count n zs) (sym same) there))

-- Those of all threads that pass a test are just these, which are sorted.
pub filter_by_deadline : (before after : Look) (p : ℕ → Bool) (due : List ℕ) → IsSortedBy (is_earlier before) due
    → ((t : ℕ) → count t due ≤ 1) → ((t : ℕ) → 0 < count t due → (t < after.threads) × (p t ≡ true))
    → ((t : ℕ) → p t ≡ true → 0 < count t due) → filter p (by_deadline before after) ≡ due
filter_by_deadline before after p due sorted once pass all =
    one_order before (filter p order) due
    (filter_ordered before p order (ordered before order in_order.most (sort_up before (all_threads after))))
    (ordered before due once (sorted_up before due sorted)) these (λ t there. those t (pass t there))
  where
    order : List ℕ
    order = by_deadline before after

    in_order : IsOrder after order
    in_order = by_deadline_in_order before after

    these : (t : ℕ) → 0 < count t (filter p order) → 0 < count t due
    these t there =
        elim (cases_Bool (p t)) [
          | inl e ↦ all t e
          | inr e ↦ absurd (omega (arith, there, count-filter_no t p order e))
        ]

    those : (t : ℕ) → (t < after.threads) × (p t ≡ true) → 0 < count t (filter p order)
    those t h = omega (arith, count-filter_yes t p order h.1, in_order.once t h.0)

-- ---- what is sorted by deadline and thread

cmp_is_before : (a b t u : ℕ) → is_lt (ordering_then (nat_cmp a b) (nat_cmp t u)) ≡ is_before (Some a) (Some b) (nat_lt t u)
cmp_is_before a b t u = by (nat_lt a b) (a == b) (nat_lt t u) (t == u)
  where
    by : (e f g h : Bool)
        → is_lt (ordering_then (cond e Less (cond f Equal Greater)) (cond g Less (cond h Equal Greater))) ≡ (e || (f && g))
    by true f g h = refl
    by false true true h = refl
    by false true false true = refl
    by false true false false = refl
    by false false g h = refl

-- The threads of such a list are in this order, where each has the deadline that the list has for it.
pub sorted_threads : {A : Type 0} (l : Look) (deadline thread : A → ℕ) (xs : List A)
    → IsSorted (λ a b. ordering_then (nat_cmp (deadline a) (deadline b)) (nat_cmp (thread a) (thread b))) xs
    → All (λ a. l.deadline (thread a) ≡ Some (deadline a)) xs → IsSortedBy (is_earlier l) (map thread xs)
sorted_threads l deadline thread [] sorted each k d low high = absurd (omega arith)
sorted_threads l deadline thread (x ∷ xs) sorted each k d low high =
    let within : k + 1 < length (x ∷ xs) = omega (arith, length-map (x ∷ xs) thread) in
    let this = slice_index_or (x ∷ xs) k x in
    let next = slice_index_or (x ∷ xs) (k + 1) x in
    ap (λ n. is_earlier l n (slice_index_or (map thread (x ∷ xs)) k d)) (get_or-map thread (x ∷ xs) (k + 1) x d within)
    ∙ ap (λ n. is_earlier l (thread next) n) (get_or-map thread (x ∷ xs) k x d (omega arith))
    ∙ ap (λ o. is_before o (l.deadline (thread this)) (nat_lt (thread next) (thread this))) (each (k + 1) x within)
    ∙ ap (λ o. is_before (Some (deadline next)) o (nat_lt (thread next) (thread this))) (each k x (omega arith))
    ∙ sym (cmp_is_before (deadline next) (deadline this) (thread next) (thread this)) ∙ sorted k x (omega arith) within
