-- The sleepers that are due, and the keys that they give up.
use Rattle.std.proofs.Common.{◌≡◌, ◌≢◌, ◌⊎◌, inl, inr, eqb, ℕ, zero, suc, ◌+◌, ◌<◌, ◌≤◌, ◌==◌, Bool, true, false, List, [], ◌∷◌, ◌++◌, get_or, take, length, Option, Some, None, refl, ap, sym, subst, ◌∙◌, arith}
use Rattle.std.specs.Prelude.{Contains, filter, map, slice_set, if◌then◌else◌}
use Rattle.std.specs.List.{AllByRecursion, IsDistinct}
use Rattle.std.proofs.Math.ListN.{length-set}
use Rattle.std.proofs.lemmas.Grind.{common_steps}
use Rattle.std.proofs.lemmas.Bool.Decides.{eqb_tells}
use Rattle.std.proofs.lemmas.List.Sorted.{Contains-permutation, IsPermutation-map, IsPermutation-sym}
use Rattle.std.proofs.lemmas.Map.Keys.{IsDistinct-IsPermutation}
use Rattle.sleep_wheel.specs.declared.sleeper.Key.{Key}
use Rattle.sleep_wheel.specs.declared.sleeper.Sleeper.{Sleeper}
use Rattle.sleep_wheel.specs.Sleepers.{IsDueList, is_due, slot_at, values_of}
use Rattle.program_state.specs.Deadlines.{key_at}
use Rattle.program_state.specs.Timers.{without_keys}
use Rattle.program_state.proofs.MemberLaws.{contains_first, contains_it, contains_more, contains_none, filter_has, filter_keeps, map_has, map_keeps}
use Rattle.program_state.proofs.WheelLaws.{key_cleared, key_other}

-- ---- keys that are given up

pub length_without : (keys : List (Option Key)) (threads : List ℕ) → length (without_keys keys threads) ≡ length keys
length_without keys [] = refl
length_without keys (t ∷ threads) = length_without (slice_set keys t None) threads ∙ length-set keys t None

none_after : (keys : List (Option Key)) (t u : ℕ) → key_at keys u ≡ None → key_at (slice_set keys t None) u ≡ None
none_after keys t u none = by (eqb_tells u t)
  where
    by : ((eqb u t ≡ true) × (u ≡ t)) ⊎ ((eqb u t ≡ false) × (u ≢ t)) → key_at (slice_set keys t None) u ≡ None
    by (inl me) = ap (λ n. key_at (slice_set keys t None) n) me.1 ∙ key_cleared keys t
    by (inr other) = key_other keys t u None other.1 ∙ none

pub none_stays : (keys : List (Option Key)) (threads : List ℕ) (u : ℕ) → key_at keys u ≡ None → key_at (without_keys keys threads) u ≡ None
none_stays keys [] u none = none
none_stays keys (t ∷ threads) u none = none_stays (slice_set keys t None) threads u (none_after keys t u none)

pub given_up : (keys : List (Option Key)) (threads : List ℕ) (u : ℕ) → Contains threads u → key_at (without_keys keys threads) u ≡ None
given_up keys [] u c = absurd (contains_none u c)
given_up keys (t ∷ threads) u c = first keys t threads u (given_up (slice_set keys t None) threads u) (contains_first t threads u c)
  where
    first : (keys : List (Option Key)) (t : ℕ) (threads : List ℕ) (u : ℕ) → (Contains threads u → key_at (without_keys (slice_set keys t None) threads) u ≡ None)
        → (t ≡ u) ⊎ Contains threads u → key_at (without_keys (slice_set keys t None) threads) u ≡ None
    first keys t threads u rest (inl same) =
        none_stays (slice_set keys t None) threads u (ap (λ n. key_at (slice_set keys t None) n) (sym same) ∙ key_cleared keys t)
    first keys t threads u rest (inr more) = rest more

pub kept_key : (keys : List (Option Key)) (threads : List ℕ) (u : ℕ) → (Contains threads u → ⊥) → key_at (without_keys keys threads) u ≡ key_at keys u
kept_key keys [] u out = refl
kept_key keys (t ∷ threads) u out =
    kept_key (slice_set keys t None) threads u (λ c. out (contains_more t threads u c)) ∙ key_other keys t u None (λ same. out (contains_it t threads u (sym same)))

-- one more
pub without_more : (keys : List (Option Key)) (threads : List ℕ) (t : ℕ) → without_keys keys (threads ++ t ∷ []) ≡ slice_set (without_keys keys threads) t None
without_more keys [] t = refl
without_more keys (u ∷ threads) t = without_more (slice_set keys u None) threads t

pub cleared_more : (keys old new : List (Option Key)) (threads : List ℕ) (i : ℕ) → i < length threads → old ≡ without_keys keys (take i threads) → new ≡ slice_set old (get_or threads i 0) None
    → new ≡ without_keys keys (take (i + 1) threads)
cleared_more keys old new threads i inside before step =
    let t = get_or threads i 0 in
    let more : take (i + 1) threads ≡ take i threads ++ t ∷ [] = grind (arith, common_steps) in
    step ∙ ap (λ ks. slice_set ks t None) before ∙ sym (without_more keys (take i threads) t) ∙ ap (without_keys keys) (sym more)

pub cleared_all : (keys now : List (Option Key)) (threads : List ℕ) (i : ℕ) → length threads ≤ i → now ≡ without_keys keys (take i threads) → now ≡ without_keys keys threads
cleared_all keys now threads i past same = let all : take i threads ≡ threads = grind (arith, common_steps) in same ∙ ap (without_keys keys) all

-- ---- sleepers by their keys, and all of them

abbrev pub HasSlot : List (Option Sleeper) → Sleeper → Type 0
HasSlot slots s = (key : ℕ) × (slot_at slots key ≡ Some s)

pub slot_of : (slots : List (Option Sleeper)) (s : Sleeper) → Contains (values_of slots) s → HasSlot slots s
slot_of [] s c = absurd (contains_none s c)
slot_of (None ∷ slots) s c = let rest = slot_of slots s c in (suc rest.0, rest.1)
slot_of (Some x ∷ slots) s c = first x slots s (slot_of slots s) (contains_first x (values_of slots) s c)
  where
    first : (x : Sleeper) (slots : List (Option Sleeper)) (s : Sleeper) → (Contains (values_of slots) s → HasSlot slots s) → (x ≡ s) ⊎ Contains (values_of slots) s
        → HasSlot (Some x ∷ slots) s
    first x slots s rest (inl same) = (0, ap (λ (y : Sleeper). Some y) same)
    first x slots s rest (inr more) = let r = rest more in (suc r.0, r.1)

pub value_of : (slots : List (Option Sleeper)) (key : ℕ) (s : Sleeper) → slot_at slots key ≡ Some s → Contains (values_of slots) s
value_of [] key s e = absurd cc
value_of (None ∷ slots) zero s e = absurd cc
value_of (None ∷ slots) (suc key) s e = value_of slots key s e
value_of (Some x ∷ slots) zero s e = let same : x ≡ s = cc in contains_it x (values_of slots) s same
value_of (Some x ∷ slots) (suc key) s e = contains_more x (values_of slots) s (value_of slots key s e)

-- ---- no thread twice

-- sleepers of one thread have one key
abbrev pub OneKeyEach : List (Option Sleeper) → Type 0
OneKeyEach slots = (i j : ℕ) (x y : Sleeper) → slot_at slots i ≡ Some x → slot_at slots j ≡ Some y → x.thread ≡ y.thread → i ≡ j

abbrev pub thread_of : Sleeper → ℕ
thread_of s = s.thread

abbrev pub same_thread : ℕ → ℕ → Bool
same_thread t u = t == u

differ_tests : (t u : ℕ) → t ≢ u → same_thread t u ≡ false
differ_tests t u ne = by (eqb_tells t u)
  where
    by : ((eqb t u ≡ true) × (t ≡ u)) ⊎ ((eqb t u ≡ false) × (t ≢ u)) → same_thread t u ≡ false
    by (inl same) = absurd (ne same.1)
    by (inr other) = other.0

all_differ : (t : ℕ) (ys : List Sleeper) → ((y : Sleeper) → Contains ys y → t ≢ y.thread) → AllByRecursion (λ u. same_thread t u ≡ false) (map thread_of ys)
all_differ t [] ne = tt
all_differ t (y ∷ ys) ne = (differ_tests t y.thread (ne y (contains_it y ys y refl)), all_differ t ys (λ z c. ne z (contains_more y ys z c)))

distinct_first : (p : Sleeper → Bool) (x : Sleeper) (slots : List (Option Sleeper)) → OneKeyEach (Some x ∷ slots) → (b : Bool)
    → IsDistinct same_thread (map thread_of (filter p (values_of slots)))
    → IsDistinct same_thread (map thread_of (if b then x ∷ filter p (values_of slots) else filter p (values_of slots)))
unfolding IsDistinct
distinct_first p x slots one false rest = rest
distinct_first p x slots one true rest = (
  all_differ x.thread (filter p (values_of slots)) (λ y c same.
      let slot = slot_of slots y (filter_has p (values_of slots) y c).0 in
      let no : 0 ≡ suc slot.0 = one 0 (suc slot.0) x y refl slot.1 same in
      absurd (omega arith)),
  rest,
)

pub distinct_threads : (p : Sleeper → Bool) (slots : List (Option Sleeper)) → OneKeyEach slots → IsDistinct same_thread (map thread_of (filter p (values_of slots)))
unfolding IsDistinct
distinct_threads p [] one = tt
distinct_threads p (None ∷ slots) one =
    distinct_threads p slots (λ i j x y here there same. let next : suc i ≡ suc j = one (suc i) (suc j) x y here there same in omega arith)
distinct_threads p (Some x ∷ slots) one =
    distinct_first p x slots one (p x) (distinct_threads p slots (λ i j y z here there same. let next : suc i ≡ suc j = one (suc i) (suc j) y z here there same in omega arith))

flips : (t u : ℕ) → same_thread t u ≡ same_thread u t
flips t u = by (eqb_tells t u) (eqb_tells u t)
  where
    by : ((eqb t u ≡ true) × (t ≡ u)) ⊎ ((eqb t u ≡ false) × (t ≢ u)) → ((eqb u t ≡ true) × (u ≡ t)) ⊎ ((eqb u t ≡ false) × (u ≢ t)) → same_thread t u ≡ same_thread u t
    by (inl a) (inl b) = a.0 ∙ sym b.0
    by (inl a) (inr b) = absurd (b.1 (sym a.1))
    by (inr a) (inl b) = absurd (a.1 (sym b.1))
    by (inr a) (inr b) = a.0 ∙ sym b.0

-- ---- the list of those that are due

pub due_once : (now : ℕ) (slots : List (Option Sleeper)) (threads : List ℕ) → OneKeyEach slots → IsDueList now (values_of slots) threads → IsDistinct same_thread threads
due_once now slots threads one d =
    let xs = filter (is_due now) (values_of slots) in
    subst (IsDistinct same_thread) (sym d.threads_are)
    (IsDistinct-IsPermutation same_thread flips (map thread_of xs) (map thread_of d.due) (IsPermutation-map thread_of xs d.due d.just_these) (distinct_threads (is_due now) slots one))

-- a sleeper of the list has a key, and is due
pub due_slot : (now : ℕ) (slots : List (Option Sleeper)) (threads : List ℕ) (d : IsDueList now (values_of slots) threads) (s : Sleeper) → Contains d.due s
    → HasSlot slots s × (is_due now s ≡ true)
due_slot now slots threads d s c =
    let xs = filter (is_due now) (values_of slots) in
    let both = filter_has (is_due now) (values_of slots) s (Contains-permutation d.due xs s (IsPermutation-sym xs d.due d.just_these) c) in
    (slot_of slots s both.0, both.1)

-- a sleeper that has a key and is due is in the list
pub slot_due : (now : ℕ) (slots : List (Option Sleeper)) (threads : List ℕ) (d : IsDueList now (values_of slots) threads) (key : ℕ) (s : Sleeper) → slot_at slots key ≡ Some s
    → is_due now s ≡ true → Contains d.due s
slot_due now slots threads d key s here due =
    let xs = filter (is_due now) (values_of slots) in
    Contains-permutation xs d.due s d.just_these (filter_keeps (is_due now) (values_of slots) s due (value_of slots key s here))

-- so is its thread, and each thread of the list is that of a sleeper
pub thread_due : (now : ℕ) (slots : List (Option Sleeper)) (threads : List ℕ) (d : IsDueList now (values_of slots) threads) (key : ℕ) (s : Sleeper) → slot_at slots key ≡ Some s
    → is_due now s ≡ true → Contains threads s.thread
thread_due now slots threads d key s here due =
    subst (λ ts. Contains ts s.thread) (sym d.threads_are) (map_keeps thread_of d.due s (slot_due now slots threads d key s here due))

pub due_thread : (now : ℕ) (slots : List (Option Sleeper)) (threads : List ℕ) (d : IsDueList now (values_of slots) threads) (t : ℕ) → Contains threads t
    → (s : Sleeper) × HasSlot slots s × (is_due now s ≡ true) × (s.thread ≡ t)
due_thread now slots threads d t c =
    let m = map_has thread_of d.due t (subst (λ ts. Contains ts t) d.threads_are c) in
    let slot = due_slot now slots threads d m.0 m.1 in
    (m.0, slot.0, slot.1, m.2)
