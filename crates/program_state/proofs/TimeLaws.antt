-- Deadlines as time goes on.
use Rattle.std.proofs.Common.{◌≡◌, ◌⊎◌, inl, inr, ℕ, suc, ◌<◌, ◌≤◌, Bool, true, false, List, Option, Some, None, refl, ap, sym, ◌∙◌, arith}
use Rattle.std.specs.Prelude.{◌↔◌, Contains, IsNone, IfSome, nat_le, nat_lt, slice_get, if◌then◌else◌}
use Rattle.std.proofs.lemmas.Bool.{leb-true, le-leb, lt-ltb, le-ltb}
use Rattle.std.proofs.lemmas.Bool.Decides.{leb_tells}
use Rattle.sleep_wheel.specs.declared.sleeper.Key.{Key}
use Rattle.sleep_wheel.specs.declared.sleeper.Sleeper.{Sleeper}
use Rattle.sleep_wheel.specs.Sleepers.{IsDueList, IsEarliest, Sleepers, is_due, sleeper_at, sleepers_of, unless_due}
use Rattle.ref_model.specs.Looks.{deadline_in}
use Rattle.ref_model.specs.State.{JavaThread, State}
use Rattle.program_state.specs.declared.state.ProgramState.{ProgramState}
use Rattle.program_state.specs.Deadlines.{HoldsDeadlines, IsLeast, IsTimed, untimed, timed, coming_deadline, deadlines_of, key_at, later_than}
use Rattle.program_state.specs.States.{IsState}
use Rattle.program_state.specs.Timers.{without_keys}
use Rattle.program_state.specs.Times.{AreDue}
use Rattle.program_state.proofs.WheelLaws.{held, holder, no_key, one_key, sleeper_of}
use Rattle.program_state.proofs.DueLaws.{due_once, due_slot, due_thread, given_up, kept_key, none_stays, slot_due, thread_due}

-- ---- deadlines that are still to come

later_none : (before now : ℕ) (d : Option ℕ) → before < now → later_than before d ≡ None → later_than now d ≡ None
later_none before now None later none = refl
later_none before now (Some d) later none = by (leb_tells (suc now) d) (leb_tells (suc before) d)
  where
    by : ((nat_lt now d ≡ true) × (suc now ≤ d)) ⊎ ((nat_lt now d ≡ false) × (d < suc now)) → ((nat_lt before d ≡ true) × (suc before ≤ d)) ⊎ ((nat_lt before d ≡ false) × (d < suc before))
        → later_than now (Some d) ≡ None
    by (inr reached) other = ap (λ b. if b then Some d else None) reached.0
    by (inl to_come) (inl was) = let no : Some d ≡ None = sym (ap (λ b. if b then Some d else None) was.0) ∙ none in absurd cc
    by (inl to_come) (inr past) = absurd (omega arith)

-- a deadline that was to come is that of the status
pub was_coming : (before : ℕ) (d : Option ℕ) (until : ℕ) → later_than before d ≡ Some until → d ≡ Some until
was_coming before None until e = absurd cc
was_coming before (Some d) until e = by (leb_tells (suc before) d)
  where
    by : ((nat_lt before d ≡ true) × (suc before ≤ d)) ⊎ ((nat_lt before d ≡ false) × (d < suc before)) → Some d ≡ Some until
    by (inl to_come) = sym (ap (λ b. if b then Some d else None) to_come.0) ∙ e
    by (inr reached) = let no : None ≡ Some until = sym (ap (λ b. if b then Some d else None) reached.0) ∙ e in absurd cc

still_none : (before now : ℕ) (o : Option JavaThread) → before < now → coming_deadline before o ≡ None → coming_deadline now o ≡ None
still_none before now None later none = refl
still_none before now (Some x) later none = later_none before now (deadline_in x.thread.status) later none

-- a deadline that was to come, at a later time
still_coming : (before now : ℕ) (o : Option JavaThread) (until : ℕ) → coming_deadline before o ≡ Some until → coming_deadline now o ≡ later_than now (Some until)
still_coming before now None until e = absurd cc
still_coming before now (Some x) until e = ap (later_than now) (was_coming before (deadline_in x.thread.status) until e)

-- ---- the wheel after that

timed_later : (now : ℕ) (wheel after : Sleepers) (keys : List (Option Key)) (threads : List ℕ) (r : State) (later : r.now < now)
    → (holds : HoldsDeadlines (sleeper_at wheel) (key_at keys) (deadlines_of r.now r.threads)) → (d : IsDueList now (sleepers_of wheel) threads)
    → ((key : ℕ) → sleeper_at after key ≡ unless_due now (sleeper_at wheel key)) → (t : ℕ) → IsTimed (sleeper_at wheel) t (deadlines_of r.now r.threads t) (key_at keys t)
    → IsTimed (sleeper_at after) t (deadlines_of now r.threads t) (key_at (without_keys keys threads) t)
timed_later now wheel after keys threads r later holds d left t (untimed e f) =
    untimed (still_none r.now now (slice_get r.threads t) later e) (none_stays keys threads t f)
timed_later now wheel after keys threads r later holds d left t (timed until k e f g) = by (leb_tells until now)
  where
    by : ((nat_le until now ≡ true) × (until ≤ now)) ⊎ ((nat_le until now ≡ false) × (now < until))
        → IsTimed (sleeper_at after) t (deadlines_of now r.threads t) (key_at (without_keys keys threads) t)
    by (inl due) =
        untimed (still_coming r.now now (slice_get r.threads t) until e ∙ ap (λ b. if b then Some until else None) (le-ltb now until due.1))
        (given_up keys threads t (thread_due now wheel.slots threads d k (sleeper_of t until) g due.0))
    by (inr not_due) =
        timed until k (still_coming r.now now (slice_get r.threads t) until e ∙ ap (λ b. if b then Some until else None) (lt-ltb now until not_due.1))
        (kept_key keys threads t (λ c.
        let s = due_thread now wheel.slots threads d t c in
        let own : deadlines_of r.now r.threads t ≡ Some (s.0).deadline = ap (deadlines_of r.now r.threads) (sym s.3) ∙ held (sleeper_at wheel) (key_at keys) (deadlines_of r.now r.threads) (s.1).0 s.0 holds (s.1).1 in
        let both : Some (s.0).deadline ≡ Some until = sym own ∙ e in
        let same : (s.0).deadline ≡ until = cc in
        let reached : (s.0).deadline ≤ now = leb-true (s.0).deadline now s.2 in
        absurd (omega arith)) ∙ f)
        (left k ∙ ap (unless_due now) g ∙ ap (λ b. if b then None else Some (sleeper_of t until)) not_due.0)

-- a sleeper that is left was there, and isn't due
left_was : (now : ℕ) (o : Option Sleeper) (s : Sleeper) → unless_due now o ≡ Some s → (o ≡ Some s) × (is_due now s ≡ false)
left_was now None s e = absurd cc
left_was now (Some x) s e = by (is_due now x) refl e
  where
    by : (b : Bool) → is_due now x ≡ b → (if b then None else Some x) ≡ Some s → (Some x ≡ Some s) × (is_due now s ≡ false)
    by true due e = absurd cc
    by false not_due e = let same : x ≡ s = cc in (e, ap (is_due now) (sym same) ∙ not_due)

pub holds_later : (now : ℕ) (wheel after : Sleepers) (keys : List (Option Key)) (threads : List ℕ) (r : State) → r.now < now
    → HoldsDeadlines (sleeper_at wheel) (key_at keys) (deadlines_of r.now r.threads) → IsDueList now (sleepers_of wheel) threads
    → ((key : ℕ) → sleeper_at after key ≡ unless_due now (sleeper_at wheel key)) → HoldsDeadlines (sleeper_at after) (key_at (without_keys keys threads)) (deadlines_of now r.threads)
holds_later now wheel after keys threads r later holds d left =
    record { each = λ t. timed_later now wheel after keys threads r later holds d left t (holds.each t); only = back }
  where
    back : (k : ℕ) (s : Sleeper) → sleeper_at after k ≡ Some s → key_at (without_keys keys threads) s.thread ≡ Some k
    back k s is =
        let was = left_was now (sleeper_at wheel k) s (sym (left k) ∙ is) in
        kept_key keys threads s.thread (λ c.
        let x = due_thread now wheel.slots threads d s.thread c in
        let one : k ≡ (x.1).0 = one_key (sleeper_at wheel) (key_at keys) (deadlines_of r.now r.threads) k (x.1).0 s x.0 holds was.0 (x.1).1 (sym x.3) in
        let both : Some s ≡ Some x.0 = sym was.0 ∙ ap (sleeper_at wheel) one ∙ (x.1).1 in
        let same : s ≡ x.0 = cc in
        let no : false ≡ true = sym was.1 ∙ ap (is_due now) same ∙ x.2 in
        absurd cc) ∙ holds.only k s was.0

-- ---- who is due

pub due_are : (a : ProgramState) (now : ℕ) (threads : List ℕ) → IsDueList now (sleepers_of a.wheel) threads → (r : State) (out : ℕ → Bool) → IsState a r out → AreDue r now threads
due_are a now threads d r out is =
    record {
      sleepers = d.due;
      threads_are = d.threads_are;
      in_order = d.in_order;
      just_these = λ s. (there s, back s);
      once = due_once now a.wheel.slots threads (λ i j x y here other same. one_key (sleeper_at a.wheel) (key_at a.keys.items) (deadlines_of r.now r.threads) i j x y is.wheel here other same) d;
    }
  where
    there : (s : Sleeper) → Contains d.due s → (deadlines_of r.now r.threads s.thread ≡ Some s.deadline) × (s.deadline ≤ now)
    there s c =
        let slot = due_slot now a.wheel.slots threads d s c in
        (held (sleeper_at a.wheel) (key_at a.keys.items) (deadlines_of r.now r.threads) (slot.0).0 s is.wheel (slot.0).1, leb-true s.deadline now slot.1)

    back : (s : Sleeper) → (deadlines_of r.now r.threads s.thread ≡ Some s.deadline) × (s.deadline ≤ now) → Contains d.due s
    back s (has, reached) =
        let key = holder (sleeper_at a.wheel) s.thread (deadlines_of r.now r.threads s.thread) (key_at a.keys.items s.thread) s.deadline (is.wheel.each s.thread) has in
        slot_due now a.wheel.slots threads d key.0 s key.2 (le-leb s.deadline now reached)

-- ---- the least deadline

none_left : (s : ℕ → Option Sleeper) (keys deadlines : ℕ → Option ℕ) → HoldsDeadlines s keys deadlines → ((key : ℕ) → s key ≡ None) → (t : ℕ) → deadlines t ≡ None
none_left s keys deadlines holds none t = by (deadlines t) (keys t) (holds.each t)
  where
    by : (d k : Option ℕ) → IsTimed s t d k → d ≡ None
    by d k (untimed e f) = e
    by d k (timed until n e f g) = let no : None ≡ Some (sleeper_of t until) = sym (none n) ∙ g in absurd cc

all_none : (s : ℕ → Option Sleeper) (keys deadlines : ℕ → Option ℕ) → HoldsDeadlines s keys deadlines → ((t : ℕ) → deadlines t ≡ None) → (key : ℕ) → s key ≡ None
all_none s keys deadlines holds none key = by (s key) refl
  where
    by : (o : Option Sleeper) → s key ≡ o → o ≡ None
    by None is = refl
    by (Some x) is =
        let no : Some key ≡ None = sym (holds.only key x is) ∙ no_key s x.thread (deadlines x.thread) (keys x.thread) (none x.thread) (holds.each x.thread) in absurd cc

pub none_earliest : (a : ProgramState) (told : Option ℕ) → IsNone told ↔ ((key : ℕ) → sleeper_at a.wheel key ≡ None) → (r : State) (out : ℕ → Bool) → IsState a r out
    → IsNone told ↔ ((t : ℕ) → deadlines_of r.now r.threads t ≡ None)
none_earliest a told tells r out is = (
  λ none. none_left (sleeper_at a.wheel) (key_at a.keys.items) (deadlines_of r.now r.threads) is.wheel (tells.0 none),
  λ none. tells.1 (all_none (sleeper_at a.wheel) (key_at a.keys.items) (deadlines_of r.now r.threads) is.wheel none),
)

least_is : (a : ProgramState) (d : ℕ) (r : State) (out : ℕ → Bool) → IsState a r out → IsEarliest a.wheel d → IsLeast (deadlines_of r.now r.threads) d
least_is a d r out is e =
    record {
      thread = e.sleeper.thread;
      is = held (sleeper_at a.wheel) (key_at a.keys.items) (deadlines_of r.now r.threads) e.key e.sleeper is.wheel e.here ∙ ap (λ (n : ℕ). Some n) e.deadline_is;
      least = λ t until has.
          let key = holder (sleeper_at a.wheel) t (deadlines_of r.now r.threads t) (key_at a.keys.items t) until (is.wheel.each t) has in
          e.least key.0 (sleeper_of t until) key.2;
    }

pub least_earliest : (a : ProgramState) (told : Option ℕ) → IfSome told (IsEarliest a.wheel) → (r : State) (out : ℕ → Bool) → IsState a r out → IfSome told (IsLeast (deadlines_of r.now r.threads))
least_earliest a None tells r out is = tt
least_earliest a (Some d) tells r out is = least_is a d r out is tells
