-- Who joins whom, when a thread's status changes.
use Rattle.std.proofs.Common.{◌≡◌, ◌≢◌, ℕ, zero, suc, ◌+◌, ◌<◌, ◌≤◌, true, cond, List, [], ◌∷◌, ◌++◌, length, set, slice_get, Option, Some, None, refl, sym, ap, subst, ◌∙◌, inl, inr, arith, eqb}
use Rattle.std.specs.Option.{ForSome}
use Rattle.std.proofs.lemmas.Bool.{cases_eq, cases_lt, eq-eqb}
use Rattle.std.proofs.lemmas.Bool.Decides.{eqb_tells}
use Rattle.std.proofs.lemmas.List.{get_or-set_other, get_or-set_same, get_or_past, length-append}
use Rattle.std.proofs.Math.ListN.{length-set}
use Rattle.thread_lists.specs.Lists.{Lists, list_at, without, count, total}
use Rattle.thread_lists.proofs.CountLaws.{count-cons, count-append, count-same, count-other, count-without, found}
use Rattle.vthread_state.specs.declared.thread.Thread.{Thread}
use Rattle.vthread_state.specs.Threads.{joins_in, target_of_status}
use Rattle.vthread_state.specs.Joiners.{times, IsJoined, lists_without, lists_with, IsList}
use Rattle.vthread_state.proofs.TableLaws.{joins_here, joins_same, slice_get-set_same, slice_get-set_other}

times_same : (t : ℕ) → times (Some t) t ≡ 1
times_same t = let e : eqb t t ≡ true = eq-eqb t t refl in rw e refl

times_other : (t k : ℕ) → k ≢ t → times (Some t) k ≡ 0
times_other t k differ = elim (eqb_tells t k) [ inl (e, same) ↦ absurd (differ (sym same)) | inr (e, other) ↦ rw e refl ]

-- a list that has a thread is one of the lists
in_range : (lists : List (List ℕ)) (u k : ℕ) → 0 < count u (list_at lists k) → k < length lists
in_range lists u k some =
    elim (cases_lt k (length lists)) [
      | inl lt ↦ lt
      | inr past ↦
          let none : list_at lists k ≡ [] = get_or_past lists k [] past in
          let zero_is : count u (list_at lists k) ≡ 0 = ap (count u) none in
          absurd (omega (arith, zero_is))
    ]

count-without_other : (u t : ℕ) (xs : List ℕ) → u ≢ t → count u (without t xs) ≡ count u xs
count-without_other u t [] differ = refl
count-without_other u t (x ∷ xs) differ =
    elim (eqb_tells x t) [
      | inl (e, same) ↦
          let other : x ≡ u → ⊥ = λ is. differ (sym is ∙ same) in
          let gone : without t (x ∷ xs) ≡ without t xs = rw e refl in
          ap (count u) gone ∙ count-without_other u t xs differ ∙ sym (count-other u x xs other)
      | inr (e, other) ↦
          let kept : without t (x ∷ xs) ≡ x ∷ without t xs = rw e refl in
          ap (count u) kept ∙ count-cons u x (without t xs) ∙ ap (λ (n : ℕ). cond (eqb x u) 1 0 + n) (count-without_other u t xs differ) ∙ sym (count-cons u x xs)
    ]

-- ---- a thread leaves

left_own : (lists : List (List ℕ)) (t : ℕ) (a : Option ℕ) → ((k : ℕ) → count t (list_at lists k) ≡ times a k) → (k : ℕ) → count t (list_at (lists_without lists t a) k) ≡ 0
left_own lists t None h k = h k
left_own lists t (Some x) h k =
    let inside : x < length lists = in_range lists t x (omega (arith, h x, times_same x)) in
    elim (cases_eq k x) [
      | inl same ↦
          let e : list_at (lists_without lists t (Some x)) k ≡ without t (list_at lists x) = ap (λ (j : ℕ). list_at (lists_without lists t (Some x)) j) same ∙ get_or-set_same lists x (without t (list_at lists x)) [] inside in
          ap (count t) e ∙ count-without t (list_at lists x)
      | inr differ ↦ ap (count t) (get_or-set_other lists x k (without t (list_at lists x)) [] differ) ∙ h k ∙ times_other x k differ
    ]

left_other : (lists : List (List ℕ)) (t u : ℕ) (a : Option ℕ) → IsList lists a → u ≢ t → (k : ℕ) → count u (list_at (lists_without lists t a) k) ≡ count u (list_at lists k)
left_other lists t u None is differ k = refl
left_other lists t u (Some x) is differ k =
    let inside : x < length lists = is x refl in
    elim (cases_eq k x) [
      | inl same ↦
          let e : list_at (lists_without lists t (Some x)) k ≡ without t (list_at lists x) = ap (λ (j : ℕ). list_at (lists_without lists t (Some x)) j) same ∙ get_or-set_same lists x (without t (list_at lists x)) [] inside in
          ap (count u) e ∙ count-without_other u t (list_at lists x) differ ∙ ap (λ (j : ℕ). count u (list_at lists j)) (sym same)
      | inr other ↦ ap (count u) (get_or-set_other lists x k (without t (list_at lists x)) [] other)
    ]

length-left : (lists : List (List ℕ)) (t : ℕ) (a : Option ℕ) → length (lists_without lists t a) ≡ length lists
length-left lists t None = refl
length-left lists t (Some x) = length-set lists x (without t (list_at lists x))

-- ---- a thread comes

come_own : (lists : List (List ℕ)) (t : ℕ) (b : Option ℕ) → IsList lists b → ((k : ℕ) → count t (list_at lists k) ≡ 0) → (k : ℕ) → count t (list_at (lists_with lists t b) k) ≡ times b k
come_own lists t None is h k = h k
come_own lists t (Some x) is h k =
    let inside : x < length lists = is x refl in
    elim (cases_eq k x) [
      | inl same ↦
          let e : list_at (lists_with lists t (Some x)) k ≡ list_at lists x ++ t ∷ [] = ap (λ (j : ℕ). list_at (lists_with lists t (Some x)) j) same ∙ get_or-set_same lists x (list_at lists x ++ t ∷ []) [] inside in
          let one : count t (list_at lists x ++ t ∷ []) ≡ 1 = omega (arith, count-append t (list_at lists x) (t ∷ []), h x, count-same t []) in
          ap (count t) e ∙ one ∙ sym (ap (times (Some x)) same ∙ times_same x)
      | inr differ ↦ ap (count t) (get_or-set_other lists x k (list_at lists x ++ t ∷ []) [] differ) ∙ h k ∙ sym (times_other x k differ)
    ]

come_other : (lists : List (List ℕ)) (t u : ℕ) (b : Option ℕ) → IsList lists b → u ≢ t → (k : ℕ) → count u (list_at (lists_with lists t b) k) ≡ count u (list_at lists k)
come_other lists t u None is differ k = refl
come_other lists t u (Some x) is differ k =
    let inside : x < length lists = is x refl in
    elim (cases_eq k x) [
      | inl same ↦
          let e : list_at (lists_with lists t (Some x)) k ≡ list_at lists x ++ t ∷ [] = ap (λ (j : ℕ). list_at (lists_with lists t (Some x)) j) same ∙ get_or-set_same lists x (list_at lists x ++ t ∷ []) [] inside in
          let none : count u (t ∷ []) ≡ 0 = count-other u t [] (λ is. differ (sym is)) in
          let kept : count u (list_at lists x ++ t ∷ []) ≡ count u (list_at lists x) = omega (arith, count-append u (list_at lists x) (t ∷ []), none) in
          ap (count u) e ∙ kept ∙ ap (λ (j : ℕ). count u (list_at lists j)) (sym same)
      | inr other ↦ ap (count u) (get_or-set_other lists x k (list_at lists x ++ t ∷ []) [] other)
    ]

length-come : (lists : List (List ℕ)) (t : ℕ) (b : Option ℕ) → length (lists_with lists t b) ≡ length lists
length-come lists t None = refl
length-come lists t (Some x) = length-set lists x (list_at lists x ++ t ∷ [])

-- ---- the table's lists

pub own_times : {threads : List Thread} {lists : Lists} (t : ℕ) (thread : Thread) → IsJoined threads lists → slice_get threads t ≡ Some thread
    → (k : ℕ) → count t (list_at lists.lists k) ≡ times (target_of_status thread.status) k
own_times {threads} t thread j e k = j.each t k ∙ ap (λ (o : Option ℕ). times o k) (joins_here threads t thread e)

-- a thread is in the list of the thread that it joins
pub held : (lists : List (List ℕ)) (t : ℕ) (a : Option ℕ) → ((k : ℕ) → count t (list_at lists k) ≡ times a k) → ForSome a (λ k. 0 < count t (list_at lists k))
held lists t a h k is = let one : times a k ≡ 1 = ap (λ (o : Option ℕ). times o k) is ∙ times_same k in omega (arith, h k, one)

pub target_in_range : (lists : List (List ℕ)) (t : ℕ) (a : Option ℕ) → ((k : ℕ) → count t (list_at lists k) ≡ times a k) → IsList lists a
target_in_range lists t a h k is = in_range lists t k (held lists t a h k is)

pub none_left : (lists : List (List ℕ)) (t : ℕ) (a : Option ℕ) → ((k : ℕ) → count t (list_at lists k) ≡ times a k) → total (count t) (lists_without lists t a) ≡ 0
none_left lists t a h =
    elim (cases_lt 0 (total (count t) (lists_without lists t a))) [
      | inl some ↦ let at = found t (lists_without lists t a) some in absurd (omega (arith, at.2, left_own lists t a h at.0))
      | inr none ↦ omega arith
    ]

-- the threads and lists after a thread's status changed
pub joined_after : (threads : List Thread) (lists new : Lists) (t : ℕ) (old thread : Thread) (a b : Option ℕ) → IsJoined threads lists → slice_get threads t ≡ Some old → t < length threads
    → a ≡ target_of_status old.status → b ≡ target_of_status thread.status → IsList lists.lists b → new ≡ record { lists = lists_with (lists_without lists.lists t a) t b; threads = lists.threads }
    → IsJoined (set threads t thread) new
joined_after threads lists new t old thread a b j e low from to range is =
    let own = own_times t old j e in
    let own_a : (k : ℕ) → count t (list_at lists.lists k) ≡ times a k = λ k. own k ∙ ap (λ (o : Option ℕ). times o k) (sym from) in
    let in_list : IsList lists.lists a = target_in_range lists.lists t a own_a in
    let to_list : IsList (lists_without lists.lists t a) b = λ k s. omega (arith, range k s, length-left lists.lists t a) in
    let made : IsJoined (set threads t thread) (record { lists = lists_with (lists_without lists.lists t a) t b; threads = lists.threads }) = record {
      each = λ u k. elim (cases_eq u t) [
        | inl same ↦
            let counts : count u (list_at (lists_with (lists_without lists.lists t a) t b) k) ≡ times b k = ap (λ (v : ℕ). count v (list_at (lists_with (lists_without lists.lists t a) t b) k)) same ∙ come_own (lists_without lists.lists t a) t b to_list (left_own lists.lists t a own_a) k in
            let joins : joins_in (set threads t thread) u ≡ b = ap (joins_in (set threads t thread)) same ∙ joins_here (set threads t thread) t thread (slice_get-set_same threads t thread low) ∙ sym to in
            counts ∙ ap (λ (o : Option ℕ). times o k) (sym joins)
        | inr differ ↦
            let counts : count u (list_at (lists_with (lists_without lists.lists t a) t b) k) ≡ count u (list_at lists.lists k) = come_other (lists_without lists.lists t a) t u b to_list differ k ∙ left_other lists.lists t u a in_list differ k in
            let joins : joins_in (set threads t thread) u ≡ joins_in threads u = joins_same threads (set threads t thread) u (slice_get-set_other threads t u thread differ) in
            counts ∙ j.each u k ∙ ap (λ (o : Option ℕ). times o k) (sym joins)
      ];
      sizes = length-come (lists_without lists.lists t a) t b ∙ length-left lists.lists t a ∙ j.sizes ∙ sym (length-set threads t thread);
      room = omega (arith, j.room, length-set threads t thread);
    } in
    subst (IsJoined (set threads t thread)) (sym is) made

-- a change that leaves the status
pub joined_same : (threads : List Thread) (lists : Lists) (t : ℕ) (old thread : Thread) → IsJoined threads lists → slice_get threads t ≡ Some old → t < length threads
    → target_of_status thread.status ≡ target_of_status old.status → IsJoined (set threads t thread) lists
joined_same threads lists t old thread j e low same = record {
  each = λ u k. elim (cases_eq u t) [
    | inl is ↦
        let new : joins_in (set threads t thread) t ≡ joins_in threads t = joins_here (set threads t thread) t thread (slice_get-set_same threads t thread low) ∙ same ∙ sym (joins_here threads t old e) in
        let joins : joins_in (set threads t thread) u ≡ joins_in threads u = ap (joins_in (set threads t thread)) is ∙ new ∙ ap (joins_in threads) (sym is) in
        j.each u k ∙ ap (λ (o : Option ℕ). times o k) (sym joins)
    | inr differ ↦
        let joins : joins_in (set threads t thread) u ≡ joins_in threads u = joins_same threads (set threads t thread) u (slice_get-set_other threads t u thread differ) in
        j.each u k ∙ ap (λ (o : Option ℕ). times o k) (sym joins)
  ];
  sizes = j.sizes ∙ sym (length-set threads t thread);
  room = omega (arith, j.room, length-set threads t thread);
}

-- ---- one more thread

list_at-more : (lists : List (List ℕ)) (k : ℕ) → list_at (lists ++ [] ∷ []) k ≡ list_at lists k
list_at-more [] zero = refl
list_at-more [] (suc k) = refl
list_at-more (x ∷ lists) zero = refl
list_at-more (x ∷ lists) (suc k) = list_at-more lists k

joins_more : (threads : List Thread) (thread : Thread) (u : ℕ) → target_of_status thread.status ≡ None → joins_in (threads ++ thread ∷ []) u ≡ joins_in threads u
joins_more [] thread zero none = none
joins_more [] thread (suc u) none = refl
joins_more (x ∷ threads) thread zero none = refl
joins_more (x ∷ threads) thread (suc u) none = joins_more threads thread u none

pub joined_more : (threads new : List Thread) (lists more : Lists) (thread : Thread) → IsJoined threads lists → new ≡ threads ++ thread ∷ [] → target_of_status thread.status ≡ None
    → more.lists ≡ lists.lists ++ [] ∷ [] → length threads + 1 ≤ more.threads → IsJoined new more
joined_more threads new lists more thread j is none with_list room =
    let made : IsJoined (threads ++ thread ∷ []) more = record {
      each = λ u k.
          ap (λ (ls : List (List ℕ)). count u (list_at ls k)) with_list ∙ ap (count u) (list_at-more lists.lists k) ∙ j.each u k
          ∙ ap (λ (o : Option ℕ). times o k) (sym (joins_more threads thread u none));
      sizes = omega (arith, ap length with_list, length-append lists.lists ([] ∷ []), length-append threads (thread ∷ []), j.sizes);
      room = omega (arith, room, length-append threads (thread ∷ []));
    } in
    subst (λ (ts : List Thread). IsJoined ts more) (sym is) made
