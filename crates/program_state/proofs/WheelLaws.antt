-- The wheel, where one deadline comes or goes.
use Rattle.std.proofs.Common.{◌≡◌, ◌≢◌, ◌⊎◌, inl, inr, eqb, ℕ, zero, suc, ◌<◌, true, false, List, [], ◌∷◌, length, Option, Some, None, refl, ap, sym, subst, ◌∙◌, arith}
use Rattle.std.specs.Prelude.{slice_get, slice_set, if◌then◌else◌}
use Rattle.std.specs.Option.{option_map_or}
use Rattle.std.proofs.Math.ListN.{length-set}
use Rattle.std.proofs.lemmas.Bool.Decides.{eqb_tells}
use Rattle.sleep_wheel.specs.declared.sleeper.Key.{Key}
use Rattle.sleep_wheel.specs.declared.sleeper.Sleeper.{Sleeper}
use Rattle.sleep_wheel.specs.Sleepers.{Sleepers, Changes, sleeper_at, slot_at}
use Rattle.ref_model.proofs.StateLaws.{get_set}
use Rattle.schedule_soundness.proofs.ThreadLists.{set_other}
use Rattle.program_state.specs.Deadlines.{HoldsDeadlines, IsTimed, untimed, timed, key_at, key_number, with_deadline}
use Rattle.program_state.specs.Timers.{IsTimerCleared, IsTimerSet}

abbrev pub sleeper_of : ℕ → ℕ → Sleeper
sleeper_of t deadline = record { deadline = deadline; thread = t }

-- ---- deadlines of threads, of which one has changed

pub deadline_changed : (deadlines : ℕ → Option ℕ) (t u : ℕ) (deadline : Option ℕ) → u ≡ t → with_deadline deadlines t deadline u ≡ deadline
deadline_changed deadlines t u deadline same = by (eqb_tells u t)
  where
    by : ((eqb u t ≡ true) × (u ≡ t)) ⊎ ((eqb u t ≡ false) × (u ≢ t)) → with_deadline deadlines t deadline u ≡ deadline
    by (inl me) = ap (λ b. if b then deadline else deadlines u) me.0
    by (inr other) = absurd (other.1 same)

pub deadline_stays : (deadlines : ℕ → Option ℕ) (t u : ℕ) (deadline : Option ℕ) → u ≢ t → with_deadline deadlines t deadline u ≡ deadlines u
deadline_stays deadlines t u deadline ne = by (eqb_tells u t)
  where
    by : ((eqb u t ≡ true) × (u ≡ t)) ⊎ ((eqb u t ≡ false) × (u ≢ t)) → with_deadline deadlines t deadline u ≡ deadlines u
    by (inl me) = absurd (ne me.1)
    by (inr other) = ap (λ b. if b then deadline else deadlines u) other.0

-- ---- the same wheel

timed_same : (s s' : ℕ → Option Sleeper) (t : ℕ) (d d' k k' : Option ℕ) → ((key : ℕ) → s' key ≡ s key) → d' ≡ d → k' ≡ k → IsTimed s t d k → IsTimed s' t d' k'
timed_same s s' t d d' k k' same deadline key (untimed e f) = untimed (deadline ∙ e) (key ∙ f)
timed_same s s' t d d' k k' same deadline key (timed until number e f g) = timed until number (deadline ∙ e) (key ∙ f) (same number ∙ g)

pub holds_same : (s s' : ℕ → Option Sleeper) (keys keys' deadlines deadlines' : ℕ → Option ℕ) → ((key : ℕ) → s' key ≡ s key) → ((t : ℕ) → keys' t ≡ keys t)
    → ((t : ℕ) → deadlines' t ≡ deadlines t) → HoldsDeadlines s keys deadlines → HoldsDeadlines s' keys' deadlines'
holds_same s s' keys keys' deadlines deadlines' same same_keys same_deadlines holds =
    record {
      each = λ t. timed_same s s' t (deadlines t) (deadlines' t) (keys t) (keys' t) same (same_deadlines t) (same_keys t) (holds.each t);
      only = λ k sleeper e. same_keys sleeper.thread ∙ holds.only k sleeper (sym (same k) ∙ e);
    }

-- ---- what holds of a thread

-- without a deadline it has no key
pub no_key : (s : ℕ → Option Sleeper) (t : ℕ) (d k : Option ℕ) → d ≡ None → IsTimed s t d k → k ≡ None
no_key s t d k none (untimed e f) = f
no_key s t d k none (timed until number e f g) = absurd cc

-- without a key it has no deadline
pub no_deadline : (s : ℕ → Option Sleeper) (t : ℕ) (d k : Option ℕ) → k ≡ None → IsTimed s t d k → d ≡ None
no_deadline s t d k none (untimed e f) = e
no_deadline s t d k none (timed until number e f g) = absurd cc

-- A sleeper with the key of a thread is that thread.
key_thread : (s : ℕ → Option Sleeper) (t number : ℕ) (d k : Option ℕ) (sleeper : Sleeper) → k ≡ Some number → s number ≡ Some sleeper → IsTimed s t d k → sleeper.thread ≡ t
key_thread s t number d k sleeper has is (untimed e f) = absurd cc
key_thread s t number d k sleeper has is (timed until n e f g) =
    let same : number ≡ n = cc in
    let one : Some sleeper ≡ Some (sleeper_of t until) = sym is ∙ ap s same ∙ g in
    let two : sleeper ≡ sleeper_of t until = cc in
    ap (λ (x : Sleeper). x.thread) two

-- ---- a deadline comes

-- a thread that stays, where another key is set
timed_stays : (s s' : ℕ → Option Sleeper) (t number : ℕ) (d d' k k' : Option ℕ) → s number ≡ None → ((other : ℕ) → other ≢ number → s' other ≡ s other) → d' ≡ d → k' ≡ k → IsTimed s t d k
    → IsTimed s' t d' k'
timed_stays s s' t number d d' k k' vacant others deadline key (untimed e f) = untimed (deadline ∙ e) (key ∙ f)
timed_stays s s' t number d d' k k' vacant others deadline key (timed until n e f g) =
    timed until n (deadline ∙ e) (key ∙ f) (others n (λ same. let no : Some (sleeper_of t until) ≡ None = sym g ∙ ap s same ∙ vacant in absurd cc) ∙ g)

-- the thread t has this deadline now, under a key that no other has
pub holds_one_more : (s s' : ℕ → Option Sleeper) (keys keys' deadlines : ℕ → Option ℕ) (t number deadline : ℕ) → s number ≡ None → s' number ≡ Some (sleeper_of t deadline)
    → ((other : ℕ) → other ≢ number → s' other ≡ s other) → keys' t ≡ Some number → ((u : ℕ) → u ≢ t → keys' u ≡ keys u) → deadlines t ≡ None
    → HoldsDeadlines s keys deadlines → HoldsDeadlines s' keys' (with_deadline deadlines t (Some deadline))
holds_one_more s s' keys keys' deadlines t number deadline vacant made others key same_keys none holds =
    record { each = λ u. at u (eqb_tells u t); only = λ k sleeper e. back k sleeper e (eqb_tells k number) }
  where
    at : (u : ℕ) → ((eqb u t ≡ true) × (u ≡ t)) ⊎ ((eqb u t ≡ false) × (u ≢ t)) → IsTimed s' u (with_deadline deadlines t (Some deadline) u) (keys' u)
    at u (inl me) =
        timed deadline number (deadline_changed deadlines t u (Some deadline) me.1) (ap keys' me.1 ∙ key) (made ∙ ap (λ n. Some (sleeper_of n deadline)) (sym me.1))
    at u (inr other) =
        timed_stays s s' u number (deadlines u) (with_deadline deadlines t (Some deadline) u) (keys u) (keys' u) vacant others (deadline_stays deadlines t u (Some deadline) other.1)
        (same_keys u other.1) (holds.each u)

    back : (k : ℕ) (sleeper : Sleeper) → s' k ≡ Some sleeper → ((eqb k number ≡ true) × (k ≡ number)) ⊎ ((eqb k number ≡ false) × (k ≢ number)) → keys' sleeper.thread ≡ Some k
    back k sleeper e (inl me) =
        let one : Some (sleeper_of t deadline) ≡ Some sleeper = sym made ∙ ap s' (sym me.1) ∙ e in
        let two : sleeper_of t deadline ≡ sleeper = cc in
        ap keys' (ap (λ (x : Sleeper). x.thread) (sym two)) ∙ key ∙ ap (λ (n : ℕ). Some n) (sym me.1)
    back k sleeper e (inr other) =
        let had = holds.only k sleeper (sym (others k other.1) ∙ e) in
        same_keys sleeper.thread (λ same. let no : Some k ≡ None = sym had ∙ ap keys same ∙ no_key s t (deadlines t) (keys t) none (holds.each t) in absurd cc) ∙ had

-- ---- a deadline goes

-- a thread that stays, where the key of another is cleared
timed_without : (s s' : ℕ → Option Sleeper) (t u number : ℕ) (d d' k k' : Option ℕ) → u ≢ t → ((sleeper : Sleeper) → s number ≡ Some sleeper → sleeper.thread ≡ t)
    → ((other : ℕ) → other ≢ number → s' other ≡ s other) → d' ≡ d → k' ≡ k → IsTimed s u d k → IsTimed s' u d' k'
timed_without s s' t u number d d' k k' ne owner others deadline key (untimed e f) = untimed (deadline ∙ e) (key ∙ f)
timed_without s s' t u number d d' k k' ne owner others deadline key (timed until n e f g) =
    timed until n (deadline ∙ e) (key ∙ f) (others n (λ same. absurd (ne (owner (sleeper_of u until) (ap s (sym same) ∙ g)))) ∙ g)

-- the thread t has no deadline any more, and its key is free
pub holds_one_less : (s s' : ℕ → Option Sleeper) (keys keys' deadlines : ℕ → Option ℕ) (t number : ℕ) → keys t ≡ Some number → s' number ≡ None
    → ((other : ℕ) → other ≢ number → s' other ≡ s other) → keys' t ≡ None → ((u : ℕ) → u ≢ t → keys' u ≡ keys u)
    → HoldsDeadlines s keys deadlines → HoldsDeadlines s' keys' (with_deadline deadlines t None)
holds_one_less s s' keys keys' deadlines t number had free others gone same_keys holds =
    record { each = λ u. at u (eqb_tells u t); only = λ k sleeper e. back k sleeper e (eqb_tells k number) }
  where
    owner : (sleeper : Sleeper) → s number ≡ Some sleeper → sleeper.thread ≡ t
    owner sleeper is = key_thread s t number (deadlines t) (keys t) sleeper had is (holds.each t)

    at : (u : ℕ) → ((eqb u t ≡ true) × (u ≡ t)) ⊎ ((eqb u t ≡ false) × (u ≢ t)) → IsTimed s' u (with_deadline deadlines t None u) (keys' u)
    at u (inl me) = untimed (deadline_changed deadlines t u None me.1) (ap keys' me.1 ∙ gone)
    at u (inr other) =
        timed_without s s' t u number (deadlines u) (with_deadline deadlines t None u) (keys u) (keys' u) other.1 owner others (deadline_stays deadlines t u None other.1)
        (same_keys u other.1) (holds.each u)

    back : (k : ℕ) (sleeper : Sleeper) → s' k ≡ Some sleeper → ((eqb k number ≡ true) × (k ≡ number)) ⊎ ((eqb k number ≡ false) × (k ≢ number)) → keys' sleeper.thread ≡ Some k
    back k sleeper e (inl me) = let no : None ≡ Some sleeper = sym free ∙ ap s' (sym me.1) ∙ e in absurd cc
    back k sleeper e (inr other) =
        let held = holds.only k sleeper (sym (others k other.1) ∙ e) in
        same_keys sleeper.thread (λ same. let one : Some k ≡ Some number = sym held ∙ ap keys same ∙ had in let two : k ≡ number = cc in absurd (other.1 two)) ∙ held

-- the thread t had none
pub holds_none : (s : ℕ → Option Sleeper) (keys deadlines : ℕ → Option ℕ) (t : ℕ) → deadlines t ≡ None → HoldsDeadlines s keys deadlines → HoldsDeadlines s keys (with_deadline deadlines t None)
holds_none s keys deadlines t none holds =
    holds_same s s keys keys deadlines (with_deadline deadlines t None) (λ k. refl) (λ u. refl) (λ u. by u (eqb_tells u t)) holds
  where
    by : (u : ℕ) → ((eqb u t ≡ true) × (u ≡ t)) ⊎ ((eqb u t ≡ false) × (u ≢ t)) → with_deadline deadlines t None u ≡ deadlines u
    by u (inl me) = deadline_changed deadlines t u None me.1 ∙ sym (ap deadlines me.1 ∙ none)
    by u (inr other) = deadline_stays deadlines t u None other.1

-- ---- lists of keys

place_there : (keys : List (Option Key)) (t : ℕ) → t < length keys → (key : Option Key) × (slice_get keys t ≡ Some key)
place_there [] t inside = absurd (omega arith)
place_there (key ∷ keys) zero inside = (key, refl)
place_there (key ∷ keys) (suc t) inside = place_there keys t (omega arith)

pub key_set : (keys : List (Option Key)) (t : ℕ) (key : Option Key) → t < length keys → key_at (slice_set keys t key) t ≡ key_number key
key_set keys t key inside =
    let old = place_there keys t inside in ap (λ (o : Option (Option Key)). option_map_or key_number o None) (get_set keys t old.0 key old.1)

pub key_other : (keys : List (Option Key)) (t u : ℕ) (key : Option Key) → u ≢ t → key_at (slice_set keys t key) u ≡ key_at keys u
key_other keys t u key ne = ap (λ (o : Option (Option Key)). option_map_or key_number o None) (set_other keys t u key ne)

-- a key that was given up is none, wherever it was
pub key_cleared : (keys : List (Option Key)) (t : ℕ) → key_at (slice_set keys t None) t ≡ None
key_cleared [] t = refl
key_cleared (key ∷ keys) zero = refl
key_cleared (key ∷ keys) (suc t) = key_cleared keys t

-- ---- the calls

-- A sleeper was added in a wheel with room.
pub timer_set : (t deadline number : ℕ) (old roomy new : Sleepers) (keys after : List (Option Key)) (key : Key) → roomy.slots ≡ old.slots → t < length keys → key.number ≡ number
    → sleeper_at roomy number ≡ None → Changes roomy new number (Some (sleeper_of t deadline)) → after ≡ slice_set keys t (Some key)
    → IsTimerSet t (Some deadline) old keys new after
timer_set t deadline number old roomy new keys after key room inside number_is vacant changes set =
    record {
      places = ap length set ∙ length-set keys t (Some key);
      holds = λ deadlines holds none.
          holds_one_more (sleeper_at old) (sleeper_at new) (key_at keys) (key_at after) deadlines t number deadline (same_slots number ∙ vacant) changes.changed
          (λ other ne. changes.others other ne ∙ sym (same_slots other))
          (ap (λ ks. key_at ks t) set ∙ key_set keys t (Some key) inside ∙ ap (λ (n : ℕ). Some n) number_is)
          (λ u ne. ap (λ ks. key_at ks u) set ∙ key_other keys t u (Some key) ne) none holds;
    }
  where
    same_slots : (k : ℕ) → sleeper_at old k ≡ sleeper_at roomy k
    same_slots k = ap (λ slots. slot_at slots k) (sym room)

-- no deadline is to come
pub no_timer_set : (t : ℕ) (deadline : Option ℕ) (wheel : Sleepers) (keys : List (Option Key)) → deadline ≡ None → IsTimerSet t deadline wheel keys wheel keys
no_timer_set t deadline wheel keys none =
    record {
      places = refl;
      holds = λ deadlines holds had. subst (λ d. HoldsDeadlines (sleeper_at wheel) (key_at keys) (with_deadline deadlines t d)) (sym none)
          (holds_none (sleeper_at wheel) (key_at keys) deadlines t had holds);
    }

-- The sleeper of a thread was removed.
pub timer_cleared : (t : ℕ) (old new : Sleepers) (keys after : List (Option Key)) (key : Key) → key_at keys t ≡ Some key.number → Changes old new key.number None → after ≡ slice_set keys t None
    → IsTimerCleared t old keys new after
timer_cleared t old new keys after key had changes set =
    record {
      places = ap length set ∙ length-set keys t None;
      holds = λ deadlines holds.
          holds_one_less (sleeper_at old) (sleeper_at new) (key_at keys) (key_at after) deadlines t key.number had changes.changed changes.others
          (ap (λ ks. key_at ks t) set ∙ key_cleared keys t) (λ u ne. ap (λ ks. key_at ks u) set ∙ key_other keys t u None ne) holds;
    }

-- it had none
pub no_timer_cleared : (t : ℕ) (wheel : Sleepers) (keys : List (Option Key)) → key_at keys t ≡ None → IsTimerCleared t wheel keys wheel keys
no_timer_cleared t wheel keys none =
    record {
      places = refl;
      holds = λ deadlines holds.
          holds_none (sleeper_at wheel) (key_at keys) deadlines t (no_deadline (sleeper_at wheel) t (deadlines t) (key_at keys t) none (holds.each t)) holds;
    }

-- ---- what a wheel that holds them tells

-- a sleeper has the deadline of its thread
pub held : (s : ℕ → Option Sleeper) (keys deadlines : ℕ → Option ℕ) (k : ℕ) (x : Sleeper) → HoldsDeadlines s keys deadlines → s k ≡ Some x → deadlines x.thread ≡ Some x.deadline
held s keys deadlines k x holds is = by (deadlines x.thread) (keys x.thread) (holds.only k x is) (holds.each x.thread)
  where
    by : (d key : Option ℕ) → key ≡ Some k → IsTimed s x.thread d key → d ≡ Some x.deadline
    by d key has (untimed e f) = absurd cc
    by d key has (timed until n e f g) =
        let same : n ≡ k = cc in
        let one : Some (sleeper_of x.thread until) ≡ Some x = sym g ∙ ap s same ∙ is in
        let two : sleeper_of x.thread until ≡ x = cc in
        e ∙ ap (λ (z : Sleeper). Some z.deadline) two

-- a thread with a deadline is a sleeper
pub holder : (s : ℕ → Option Sleeper) (t : ℕ) (d k : Option ℕ) (until : ℕ) → IsTimed s t d k → d ≡ Some until → (n : ℕ) × (k ≡ Some n) × (s n ≡ Some (sleeper_of t until))
holder s t d k until (untimed e f) is = absurd cc
holder s t d k until (timed v n e f g) is = let same : v ≡ until = cc in (n, f, g ∙ ap (λ x. Some (sleeper_of t x)) same)

-- two sleepers of one thread are one
pub one_key : (s : ℕ → Option Sleeper) (keys deadlines : ℕ → Option ℕ) (i j : ℕ) (x y : Sleeper) → HoldsDeadlines s keys deadlines → s i ≡ Some x → s j ≡ Some y → x.thread ≡ y.thread → i ≡ j
one_key s keys deadlines i j x y holds here there same =
    let both : Some i ≡ Some j = sym (holds.only i x here) ∙ ap keys same ∙ holds.only j y there in cc
