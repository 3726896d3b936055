-- What a thread does to others, and then to itself.
use Rattle.std.proofs.Common.{◌≡◌, ◌≢◌, ◌⊎◌, inl, inr, eqb, cond, ℕ, Bool, true, false, List, [], ◌∷◌, ◌++◌, Option, Some, None, refl, ap, sym, subst, ◌∙◌}
use Rattle.std.specs.Prelude.{is_some, map, nat_lt, slice_get, slice_set, if◌then◌else◌}
use Rattle.std.specs.Option.{option_map_or}
use Rattle.std.proofs.lemmas.Bool.Decides.{eqb_tells}
use Rattle.std.proofs.lemmas.Bool.{or_left}
use Rattle.vthread_state.specs.declared.phase.Phase.{Phase}
use Rattle.vthread_state.specs.declared.phase.Phase.TheVariants.{Entering, Waiting, Reenter}
use Rattle.vthread_state.specs.declared.phase.Wake.{Wake}
use Rattle.vthread_state.specs.declared.phase.Wake.TheVariants.{Notified, Interrupted, TimedOut}
use Rattle.vthread_state.specs.declared.thread.Status.{Status}
use Rattle.vthread_state.specs.declared.thread.Status.TheVariants.{New, Live, Done}
use Rattle.link_model.specs.World.{World}
use Rattle.schedule_model.specs.Look.{Spot, absent, in_entry_list, is_in_line, is_live as is_live_spot, is_done as is_done_spot}
use Rattle.ref_model.specs.Memory.{Memory}
use Rattle.ref_model.specs.State.{JavaThread, Owner, State, with_thread, with_owner}
use Rattle.ref_model.specs.Ending.{is_live}
use Rattle.ref_model.specs.Requests.{Request, reads_clock}
use Rattle.ref_model.specs.Alone.{is_start}
use Rattle.ref_model.specs.Starting.{with_new_thread}
use Rattle.ref_model.specs.Waiting.{is_reached, status_at_time, thread_at_time, status_woken, thread_woken, thread_waits_on, notified_on, with_all_notified, at_time}
use Rattle.ref_model.specs.Requesting.{thread_interrupted, thread_unparked, with_daemon, with_name}
use Rattle.ref_model.proofs.StateLaws.{get_set}
use Rattle.ref_model.specs.Looks.{spot_in, spot_of, deadline_in}
use Rattle.schedule_soundness.specs.Started.{was_started}
use Rattle.schedule_soundness.specs.Moves.{Moved, still, told, woken, made}
use Rattle.schedule_soundness.proofs.ThreadLists.{StaysThere, same_there, set_there, set_other, more, more_there, map_there, map_none, with_cases}
use Rattle.schedule_soundness.proofs.OwnSteps.{AsksNo, OwnMoves, OwnStep, Settled, going, ended}

pub phase_live : (phase : Phase) → is_live_spot (spot_in phase) ≡ true
phase_live (Entering o) = refl
phase_live (Waiting o count deadline) = refl
phase_live (Reenter o count wake) = refl
phase_live phase = refl

abbrev pub spot_at : Option JavaThread → Spot
spot_at o = option_map_or (λ (x : JavaThread). spot_of x.thread.status) o absent

-- nobody else is started
abbrev pub Fresh : ℕ → State → State → Type 0
Fresh t r q = (u : ℕ) → u ≢ t → was_started (spot_at (slice_get r.threads u)) ≡ false → was_started (spot_at (slice_get q.threads u)) ≡ false

-- before the thread does something to itself, in a step that asks this, or nothing
pub record SomeMoves (w : World) (t : ℕ) (r q : State) (asking : Option Request) : Type 0 where
  pub fresh : AsksNo is_start asking → Fresh t r q
  pub there : StaysThere t r q
  pub now : q.now ≡ r.now
  pub others : (u : ℕ) → u ≢ t → Moved w (slice_get r.threads u) (slice_get q.threads u)

-- after its step a thread is in line only where another one owns the monitor, and has a deadline only where the step reads the clock
pub record OwnAfter (r : State) (asking : Option Request) (y : JavaThread) : Type 0 where
  pub begun : was_started (spot_of y.thread.status) ≡ true
  pub dropped : is_live y.thread.status ≡ false → y.frames ≡ []
  pub came : (o : ℕ) → spot_of y.thread.status ≡ in_entry_list o → is_some (r.owners o) ≡ true
  pub timeless : AsksNo reads_clock asking → deadline_in y.thread.status ≡ None

pub record StepMoves (w : World) (t : ℕ) (r q : State) (asking : Option Request) : Type 0 where
  pub fresh : AsksNo is_start asking → Fresh t r q
  pub there : StaysThere t r q
  pub now : q.now ≡ r.now
  pub others : (u : ℕ) → u ≢ t → Moved w (slice_get r.threads u) (slice_get q.threads u)
  pub own : (y : JavaThread) → slice_get q.threads t ≡ Some y → OwnAfter r asking y

settled_after : {asking : Option Request} (r : State) (y : JavaThread) → Settled asking y → OwnAfter r asking y
settled_after r y (going g) =
    record {
      begun = ap (λ status. was_started (spot_of status)) g.status ∙ or_left (is_live_spot (spot_in g.phase)) (is_done_spot (spot_in g.phase)) (phase_live g.phase);
      dropped = λ e. let x : is_live (Live g.phase) ≡ false = sym (ap is_live g.status) ∙ e in absurd cc;
      came = λ o e. absurd (no_line (spot_in g.phase) o (sym (ap spot_of g.status) ∙ e) g.loose);
      timeless = λ z. ap deadline_in g.status ∙ g.timeless z;
    }
  where
    no_line : (x : Spot) (o : ℕ) → x ≡ in_entry_list o → is_in_line x ≡ false → ⊥
    no_line x o e loose = let z : is_in_line (in_entry_list o) ≡ false = sym (ap is_in_line e) ∙ loose in cc
settled_after r y (ended e dropped) =
    record {
      begun = ap (λ status. was_started (spot_of status)) e;
      dropped = λ z. dropped;
      came = λ o z. let x : spot_of Done ≡ in_entry_list o = sym (ap spot_of e) ∙ z in absurd cc;
      timeless = λ z. ap deadline_in e;
    }

-- others, then the thread itself
pub moves_after : {asking : Option Request} (w : World) (t : ℕ) (r s q : State) → SomeMoves w t r s asking → OwnStep t s q asking → StepMoves w t r q asking
moves_after w t r s q a b =
    record {
      fresh = λ e u ne off. ap (λ o. was_started (spot_at o)) (b.moves.others u ne) ∙ a.fresh e u ne off;
      there = λ x at. let y = a.there x at in b.moves.there y.0 y.1;
      now = b.moves.now ∙ a.now;
      others = λ u ne. subst (Moved w (slice_get r.threads u)) (sym (b.moves.others u ne)) (a.others u ne);
      own = λ y at. settled_after r y (b.own y at);
    }

pub no_moves : {asking : Option Request} (w : World) (t : ℕ) (r : State) → SomeMoves w t r r asking
no_moves w t r = record { fresh = λ e u ne off. off; there = same_there t r r refl; now = refl; others = λ u ne. still refl }

pub owner_moves : {asking : Option Request} (w : World) (t : ℕ) (r : State) (o : ℕ) (owner : Option Owner) → SomeMoves w t r (with_owner r o owner) asking
owner_moves w t r o owner =
    record {
      fresh = λ e u ne off. off;
      there = same_there t r (with_owner r o owner) refl;
      now = refl;
      others = λ u ne. still refl;
    }

pub own_moves : {asking : Option Request} (w : World) (t : ℕ) (r q : State) → OwnStep t r q asking → StepMoves w t r q asking
own_moves w t r q own = moves_after w t r r q (no_moves w t r) own

pub own_some : {asking : Option Request} (w : World) (t : ℕ) (r q : State) → OwnMoves t r q → SomeMoves w t r q asking
own_some w t r q a =
    record {
      fresh = λ e u ne off. ap (λ o. was_started (spot_at o)) (a.others u ne) ∙ off;
      there = a.there;
      now = a.now;
      others = λ u ne. still (a.others u ne);
    }

-- ---- one other thread

-- a thread of this number, which is the one that has changed or another
at_number : (w : World) (t u v : ℕ) (xs : List JavaThread) (x y : JavaThread) → v ≢ t → slice_get xs u ≡ Some x → (u ≢ t → Moved w (Some x) (Some y))
    → ((eqb v u ≡ true) × (v ≡ u)) ⊎ ((eqb v u ≡ false) × (v ≢ u)) → Moved w (slice_get xs v) (slice_get (slice_set xs u y) v)
at_number w t u v xs x y ne e each (inl is) =
    let same : v ≡ u = is.1 in
    subst (λ n. Moved w (slice_get xs n) (slice_get (slice_set xs u y) n)) (sym same)
    (subst (λ o. Moved w o (slice_get (slice_set xs u y) u)) (sym e)
    (subst (λ o. Moved w (Some x) o) (sym (get_set xs u x y e)) (each (λ z. ne (same ∙ z)))))
at_number w t u v xs x y ne e each (inr other) = still (set_other xs u v y other.1)

-- who isn't started stays so with a change that keeps new threads new
keeps_new : (change : JavaThread → JavaThread) → ((x : JavaThread) → x.thread.status ≡ New → (change x).thread.status ≡ New) → (x : JavaThread)
    → was_started (spot_of x.thread.status) ≡ false → was_started (spot_of (change x).thread.status) ≡ false
keeps_new change keeps x off = by x.thread.status refl
  where
    by : (status : Status) → x.thread.status ≡ status → was_started (spot_of (change x).thread.status) ≡ false
    by New e = ap (λ s. was_started (spot_of s)) (keeps x e)
    by (Live phase) e =
        let z : true ≡ false =
        sym (ap (λ s. was_started (spot_of s)) e ∙ or_left (is_live_spot (spot_in phase)) (is_done_spot (spot_in phase)) (phase_live phase)) ∙ off in absurd cc
    by Done e = let z : true ≡ false = sym (ap (λ s. was_started (spot_of s)) e) ∙ off in absurd cc

set_fresh : (xs : List JavaThread) (u v : ℕ) (x y : JavaThread) → slice_get xs u ≡ Some x
    → (was_started (spot_of x.thread.status) ≡ false → was_started (spot_of y.thread.status) ≡ false)
    → ((eqb v u ≡ true) × (v ≡ u)) ⊎ ((eqb v u ≡ false) × (v ≢ u)) → was_started (spot_at (slice_get xs v)) ≡ false
    → was_started (spot_at (slice_get (slice_set xs u y) v)) ≡ false
set_fresh xs u v x y e each (inl is) off =
    ap (λ n. was_started (spot_at (slice_get (slice_set xs u y) n))) is.1 ∙ ap (λ o. was_started (spot_at o)) (get_set xs u x y e)
    ∙ each (sym (ap (λ o. was_started (spot_at o)) e) ∙ ap (λ n. was_started (spot_at (slice_get xs n))) (sym is.1) ∙ off)
set_fresh xs u v x y e each (inr other) off = ap (λ o. was_started (spot_at o)) (set_other xs u v y other.1) ∙ off

pub one_moves : {asking : Option Request} (w : World) (t : ℕ) (r : State) (u : ℕ) (change : JavaThread → JavaThread)
    → (AsksNo is_start asking → (x : JavaThread) → x.thread.status ≡ New → (change x).thread.status ≡ New)
    → ((x : JavaThread) → u ≢ t → slice_get r.threads u ≡ Some x → Moved w (Some x) (Some (change x)))
    → SomeMoves w t r (with_thread r u change) asking
one_moves {asking} w t r u change keeps each =
    with_cases r u change (λ s. SomeMoves w t r s asking) (no_moves w t r)
    (λ x e. record {
      fresh = λ plain v ne off. set_fresh r.threads u v x (change x) e (keeps_new change (keeps plain) x) (eqb_tells v u) off;
      there = set_there t u r x (change x) e;
      now = refl;
      others = λ v ne. at_number w t u v r.threads x (change x) ne e (λ other. each x other e) (eqb_tells v u);
    })

-- it is told something, and stays where it is
tells : (w : World) (x y : JavaThread) → y.thread.status ≡ x.thread.status → y.frames ≡ x.frames → (x.permit ≡ true → y.permit ≡ true)
    → (x.interrupted ≡ true → y.interrupted ≡ true) → Moved w (Some x) (Some y)
tells w x y status frames permit interrupted = told x y refl refl status frames permit interrupted

-- its wait ends, if it waits
wakes : (w : World) (x y : JavaThread) (wake : Wake) (status : Status) → x.thread.status ≡ status → y.thread.status ≡ status_woken wake status
    → y.frames ≡ x.frames → (x.permit ≡ true → y.permit ≡ true) → (x.interrupted ≡ true → y.interrupted ≡ true) → Moved w (Some x) (Some y)
wakes w x y wake (Live (Waiting o count deadline)) is now frames permit interrupted = woken x y o count deadline wake refl refl is now frames
wakes w x y wake (Live phase) is now frames permit interrupted = tells w x y (now ∙ sym is) frames permit interrupted
wakes w x y wake New is now frames permit interrupted = tells w x y (now ∙ sym is) frames permit interrupted
wakes w x y wake Done is now frames permit interrupted = tells w x y (now ∙ sym is) frames permit interrupted

pub woken_moves : (w : World) (wake : Wake) (x : JavaThread) → Moved w (Some x) (Some (thread_woken wake x))
woken_moves w wake x = wakes w x (thread_woken wake x) wake x.thread.status refl refl refl (λ e. e) (λ e. e)

pub interrupted_moves : (w : World) (x : JavaThread) → Moved w (Some x) (Some (thread_interrupted x))
interrupted_moves w x = by (is_live x.thread.status)
  where
    by : (b : Bool) → Moved w (Some x) (Some (if b then record (thread_woken Interrupted x) { interrupted = true } else x))
    by true =
        wakes w x (record (thread_woken Interrupted x) { interrupted = true }) Interrupted x.thread.status refl refl refl (λ e. e) (λ e. refl)
    by false = still refl

pub unparked_moves : (w : World) (x : JavaThread) → Moved w (Some x) (Some (thread_unparked x))
unparked_moves w x = by (is_live x.thread.status)
  where
    by : (b : Bool) → Moved w (Some x) (Some (if b then record x { permit = true } else x))
    by true = tells w x (record x { permit = true }) refl refl (λ e. refl) (λ e. e)
    by false = still refl

pub named_moves : (w : World) (x : JavaThread) (name : ℕ) → Moved w (Some x) (Some (with_name name x))
named_moves w x name = tells w x (with_name name x) refl refl (λ e. e) (λ e. e)

pub daemon_moves : (w : World) (x : JavaThread) (daemon : Bool) → Moved w (Some x) (Some (with_daemon daemon x))
daemon_moves w x daemon = tells w x (with_daemon daemon x) refl refl (λ e. e) (λ e. e)

-- ---- all threads

map_moves : (w : World) (f : JavaThread → JavaThread) (xs : List JavaThread) (u : ℕ) → ((x : JavaThread) → Moved w (Some x) (Some (f x)))
    → (o : Option JavaThread) → slice_get xs u ≡ o → Moved w (slice_get xs u) (slice_get (map f xs) u)
map_moves w f xs u each None e = still (map_none f xs u e ∙ sym e)
map_moves w f xs u each (Some x) e =
    subst (λ o. Moved w o (slice_get (map f xs) u)) (sym e) (subst (Moved w (Some x)) (sym (map_there f xs u x e)) (each x))

notified_moves : (w : World) (o : ℕ) (x : JavaThread) → Moved w (Some x) (Some (notified_on o x))
notified_moves w o x = by (thread_waits_on o x)
  where
    by : (b : Bool) → Moved w (Some x) (Some (if b then thread_woken Notified x else x))
    by true = woken_moves w Notified x
    by false = still refl

pub notified_new : (o : ℕ) (x : JavaThread) → x.thread.status ≡ New → (notified_on o x).thread.status ≡ New
notified_new o x new = by (thread_waits_on o x)
  where
    by : (b : Bool) → (if b then thread_woken Notified x else x).thread.status ≡ New
    by true = ap (status_woken Notified) new
    by false = new

map_fresh : (f : JavaThread → JavaThread) (xs : List JavaThread) (u : ℕ) → ((x : JavaThread) → x.thread.status ≡ New → (f x).thread.status ≡ New)
    → (o : Option JavaThread) → slice_get xs u ≡ o → was_started (spot_at (slice_get xs u)) ≡ false
    → was_started (spot_at (slice_get (map f xs) u)) ≡ false
map_fresh f xs u keeps None e off = ap (λ o. was_started (spot_at o)) (map_none f xs u e)
map_fresh f xs u keeps (Some x) e off =
    ap (λ o. was_started (spot_at o)) (map_there f xs u x e) ∙ keeps_new f keeps x (sym (ap (λ o. was_started (spot_at o)) e) ∙ off)

pub all_notified_moves : {asking : Option Request} (w : World) (t : ℕ) (r : State) (o : ℕ) → SomeMoves w t r (with_all_notified r o) asking
all_notified_moves w t r o =
    record {
      fresh = λ e u ne off. map_fresh (notified_on o) r.threads u (notified_new o) (slice_get r.threads u) refl off;
      there = λ x at. (notified_on o x, map_there (notified_on o) r.threads t x at);
      now = refl;
      others = λ u ne. map_moves w (notified_on o) r.threads u (notified_moves w o) (slice_get r.threads u) refl;
    }

timed : (w : World) (now : ℕ) (x : JavaThread) (status : Status) → x.thread.status ≡ status → Moved w (Some x) (Some (thread_at_time now x))
timed w now x (Live (Waiting o count deadline)) is = by (is_reached now deadline) refl
  where
    after : JavaThread
    after = thread_at_time now x

    by : (b : Bool) → is_reached now deadline ≡ b → Moved w (Some x) (Some after)
    by true reached =
        woken x after o count deadline TimedOut refl refl is (ap (status_at_time now) is ∙ ap (λ b. Live (cond b (Reenter o count TimedOut) (Waiting o count deadline))) reached) refl
    by false reached =
        tells w x after (ap (status_at_time now) is ∙ ap (λ b. Live (cond b (Reenter o count TimedOut) (Waiting o count deadline))) reached ∙ sym is) refl (λ e. e) (λ e. e)
timed w now x (Live phase) is = tells w x (thread_at_time now x) (ap (status_at_time now) is ∙ sym is) refl (λ e. e) (λ e. e)
timed w now x New is = tells w x (thread_at_time now x) (ap (status_at_time now) is ∙ sym is) refl (λ e. e) (λ e. e)
timed w now x Done is = tells w x (thread_at_time now x) (ap (status_at_time now) is ∙ sym is) refl (λ e. e) (λ e. e)

-- what time makes of a state
pub time_is : (r q : State) (now : ℕ) → at_time r now ≡ Some q → (nat_lt r.now now ≡ true) × (record r { now = now; threads = map (thread_at_time now) r.threads } ≡ q)
time_is r q now e = by (nat_lt r.now now) e
  where
    by : (b : Bool) → (if b then Some (record r { now = now; threads = map (thread_at_time now) r.threads }) else None) ≡ Some q
        → (b ≡ true) × (record r { now = now; threads = map (thread_at_time now) r.threads } ≡ q)
    by true e = (refl, cc)
    by false e = absurd cc

pub time_moves : (w : World) (r q : State) (u now : ℕ) → at_time r now ≡ Some q → Moved w (slice_get r.threads u) (slice_get q.threads u)
time_moves w r q u now e =
    subst (λ (s : State). Moved w (slice_get r.threads u) (slice_get s.threads u)) (time_is r q now e).1
    (map_moves w (thread_at_time now) r.threads u (λ x. timed w now x x.thread.status refl) (slice_get r.threads u) refl)

-- ---- one thread more

pub made_moves : {asking : Option Request} (w : World) (t : ℕ) (r : State) (memory : Memory) (unnamed : ℕ) (x : JavaThread) → x.thread.status ≡ New
    → x.frames ≡ [] → SomeMoves w t r (with_new_thread r memory unnamed x) asking
made_moves w t r memory unnamed x new empty =
    record {
      fresh = λ e u ne off. fresh u (more r.threads x u) off;
      there = λ y at. (y, more_there r.threads x t y at);
      now = refl;
      others = λ u ne. by u (more r.threads x u);
    }
  where
    fresh : (u : ℕ) → (slice_get (r.threads ++ x ∷ []) u ≡ slice_get r.threads u) ⊎ ((slice_get r.threads u ≡ None) × (slice_get (r.threads ++ x ∷ []) u ≡ Some x))
        → was_started (spot_at (slice_get r.threads u)) ≡ false → was_started (spot_at (slice_get (r.threads ++ x ∷ []) u)) ≡ false
    fresh u (inl same) off = ap (λ o. was_started (spot_at o)) same ∙ off
    fresh u (inr last) off = ap (λ o. was_started (spot_at o)) last.1 ∙ ap (λ s. was_started (spot_of s)) new

    by : (u : ℕ) → (slice_get (r.threads ++ x ∷ []) u ≡ slice_get r.threads u) ⊎ ((slice_get r.threads u ≡ None) × (slice_get (r.threads ++ x ∷ []) u ≡ Some x))
        → Moved w (slice_get r.threads u) (slice_get (r.threads ++ x ∷ []) u)
    by u (inl same) = still same
    by u (inr last) = made x last.0 last.1 new empty
