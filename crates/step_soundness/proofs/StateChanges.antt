-- Changes of threads and monitors that keep to the typing.
use Rattle.std.proofs.Common.{◌≡◌, ◌⊎◌, inl, inr, ℕ, zero, suc, Bool, true, false, List, [], ◌∷◌, ◌++◌, Option, Some, None, refl, ap, sym, subst, ◌∙◌}
use Rattle.std.specs.Prelude.{map, nat_lt, slice_get, slice_set, if◌then◌else◌}
use Rattle.std.specs.Option.{option_map_or}
use Rattle.vthread_state.specs.declared.phase.Phase.{Phase}
use Rattle.vthread_state.specs.declared.phase.Phase.TheVariants.{Waiting, Reenter}
use Rattle.vthread_state.specs.declared.phase.Wake.{Wake}
use Rattle.vthread_state.specs.declared.phase.Wake.TheVariants.{Notified, TimedOut, Interrupted}
use Rattle.vthread_state.specs.declared.thread.Status.{Status}
use Rattle.vthread_state.specs.declared.thread.Status.TheVariants.{New, Live, Done}
use Rattle.link_model.specs.World.{World}
use Rattle.state_model.specs.Frames.{Frame}
use Rattle.ref_model.specs.declared.exception.Exception.TheVariants.{InterruptedException}
use Rattle.ref_model.specs.Memory.{Memory}
use Rattle.ref_model.specs.State.{JavaThread, Owner, State, with_thread, with_status, with_interrupt, with_owner}
use Rattle.ref_model.specs.Ending.{is_live}
use Rattle.ref_model.specs.Waiting.{is_reached, status_woken, thread_woken, thread_waits_on, with_notified, notified_on, with_all_notified, status_at_time, thread_at_time, at_time}
use Rattle.ref_model.specs.Asking.{thrown_interrupted}
use Rattle.ref_model.specs.Requesting.{thread_interrupted, thread_unparked}
use Rattle.frame_soundness.specs.Typed.{Typed, Thrown}
use Rattle.frame_soundness.specs.TypedStates.{AreOfPhase, AreOfStatus, IsTypedThread, IsTypedState}
use Rattle.frame_soundness.specs.StateKinds.{MemoryFits}
use Rattle.frame_soundness.specs.ThrowLaws.{OfFrames}
use Rattle.frame_soundness.proofs.Exceptions.{thrown}
use Rattle.frame_soundness.proofs.FieldLaws.{set_at}
use Rattle.frame_soundness.proofs.Raises.{raises_keep}
use Rattle.frame_soundness.proofs.ThreadLaws.{thread_changed}

-- ---- the frames of the thread

-- they stay with a change that keeps them
pub frames_stay : (P : List Frame → Type 0) (r : State) (t : ℕ) (change : JavaThread → JavaThread) → ((x : JavaThread) → (change x).frames ≡ x.frames)
    → OfFrames r t P → OfFrames (with_thread r t change) t P
frames_stay P r t change keeps of = by (slice_get r.threads t) refl
  where
    by : (o : Option JavaThread) → slice_get r.threads t ≡ o
        → OfFrames (option_map_or (λ thread. record r { threads = slice_set r.threads t (change thread) }) o r) t P
    by None e = of
    by (Some y) e = λ x at. here x (set_at r.threads t (change y) t x at)
      where
        here : (x : JavaThread) → (x ≡ change y) ⊎ (slice_get r.threads t ≡ Some x) → P x.frames
        here x (inl same) = subst P (sym (ap (λ (z : JavaThread). z.frames) same ∙ keeps y)) (of y e)
        here x (inr at) = of x at

-- frames at an instruction may be left by an exception
pub may_throw : (w : World) (r : State) (t : ℕ) → OfFrames r t (Typed w) → OfFrames r t (Thrown w)
may_throw w r t of = λ x at. thrown w x.frames (of x at)

-- ---- one thread

-- it waits, or runs again
pub status_keeps : (w : World) (r : State) (t : ℕ) (phase : Phase) → IsTypedState w r → OfFrames r t (λ frames. AreOfPhase w frames phase)
    → IsTypedState w (with_status r t (Live phase))
status_keeps w r t phase typed of =
    thread_changed w r t (λ thread. record thread { thread = record thread.thread { status = Live phase } }) typed (λ x at. of x at)

-- its interrupt status
pub interrupt_keeps : (w : World) (r : State) (t : ℕ) (b : Bool) → IsTypedState w r → IsTypedState w (with_interrupt r t b)
interrupt_keeps w r t b typed = thread_changed w r t (λ thread. record thread { interrupted = b }) typed (λ x at. typed.threads t x at)

-- it throws InterruptedException
pub thrown_interrupted_keeps : (w : World) (r q : State) (t : ℕ) → IsTypedState w r → OfFrames r t (Typed w) → thrown_interrupted w r t ≡ Some q
    → IsTypedState w q
thrown_interrupted_keeps w r q t typed of e =
    raises_keep w (with_interrupt r t false) q t InterruptedException (interrupt_keeps w r t false typed)
    (frames_stay (Thrown w) r t (λ thread. record thread { interrupted = false }) (λ x. refl) (may_throw w r t of)) e

-- its wait has ended
woken_status : (w : World) (frames : List Frame) (wake : Wake) (status : Status) → AreOfStatus w frames status
    → AreOfStatus w frames (status_woken wake status)
woken_status w frames wake New good = tt
woken_status w frames wake Done good = tt
woken_status w frames wake (Live (Waiting o count deadline)) good = good
woken_status w frames wake (Live phase) good = good

woken_fits : (w : World) (wake : Wake) (x : JavaThread) → IsTypedThread w x → IsTypedThread w (thread_woken wake x)
woken_fits w wake x good = woken_status w x.frames wake x.thread.status good

pub notified_keeps : (w : World) (r : State) (u : ℕ) → IsTypedState w r → IsTypedState w (with_notified r u)
notified_keeps w r u typed = thread_changed w r u (thread_woken Notified) typed (λ x at. woken_fits w Notified x (typed.threads u x at))

pub interrupted_fits : (w : World) (x : JavaThread) → IsTypedThread w x → IsTypedThread w (thread_interrupted x)
interrupted_fits w x good = by (is_live x.thread.status)
  where
    by : (b : Bool) → IsTypedThread w (if b then record (thread_woken Interrupted x) { interrupted = true } else x)
    by true = woken_fits w Interrupted x good
    by false = good

pub unparked_fits : (w : World) (x : JavaThread) → IsTypedThread w x → IsTypedThread w (thread_unparked x)
unparked_fits w x good = by (is_live x.thread.status)
  where
    by : (b : Bool) → IsTypedThread w (if b then record x { permit = true } else x)
    by true = good
    by false = good

-- ---- all threads

record Mapped (f : JavaThread → JavaThread) (xs : List JavaThread) (n : ℕ) (y : JavaThread) : Type 0 where
  pub item : JavaThread
  pub at : slice_get xs n ≡ Some item
  pub is : f item ≡ y

mapped : (f : JavaThread → JavaThread) (xs : List JavaThread) (n : ℕ) (y : JavaThread) → slice_get (map f xs) n ≡ Some y → Mapped f xs n y
mapped f [] n y e = absurd cc
mapped f (x ∷ xs) zero y e = record { item = x; at = refl; is = cc }
mapped f (x ∷ xs) (suc n) y e = let m = mapped f xs n y e in record { item = m.item; at = m.at; is = m.is }

mapped_fits : (w : World) (r : State) (f : JavaThread → JavaThread) → IsTypedState w r
    → ((x : JavaThread) → IsTypedThread w x → IsTypedThread w (f x)) → (t : ℕ) (y : JavaThread) → slice_get (map f r.threads) t ≡ Some y
    → IsTypedThread w y
mapped_fits w r f typed keeps t y at =
    let m = mapped f r.threads t y at in subst (IsTypedThread w) m.is (keeps m.item (typed.threads t m.item m.at))

all_notified_fits : (w : World) (o : ℕ) (x : JavaThread) → IsTypedThread w x → IsTypedThread w (notified_on o x)
all_notified_fits w o x good = by (thread_waits_on o x)
  where
    by : (b : Bool) → IsTypedThread w (if b then thread_woken Notified x else x)
    by true = woken_fits w Notified x good
    by false = good

pub all_notified_keep : (w : World) (r : State) (o : ℕ) → IsTypedState w r → IsTypedState w (with_all_notified r o)
all_notified_keep w r o typed =
    record { values = typed.values; threads = λ t y at. mapped_fits w r (notified_on o) typed (all_notified_fits w o) t y at }

timed_status : (w : World) (frames : List Frame) (now : ℕ) (status : Status) → AreOfStatus w frames status
    → AreOfStatus w frames (status_at_time now status)
timed_status w frames now New good = tt
timed_status w frames now Done good = tt
timed_status w frames now (Live (Waiting o count deadline)) good = by (is_reached now deadline)
  where
    by : (b : Bool) → AreOfPhase w frames (if b then Reenter o count TimedOut else Waiting o count deadline)
    by true = good
    by false = good
timed_status w frames now (Live phase) good = good

timed_fits : (w : World) (now : ℕ) (x : JavaThread) → IsTypedThread w x → IsTypedThread w (thread_at_time now x)
timed_fits w now x good = timed_status w x.frames now x.thread.status good

if_some : (b : Bool) (x : State) (q : State) → (if b then Some x else None) ≡ Some q → x ≡ q
if_some true x q e = cc
if_some false x q e = absurd cc

pub time_keeps : (w : World) (r q : State) (now : ℕ) → IsTypedState w r → at_time r now ≡ Some q → IsTypedState w q
time_keeps w r q now typed e =
    let after : State = record r { now = now; threads = map (thread_at_time now) r.threads } in
    let good : IsTypedState w after =
    record { values = typed.values; threads = λ t y at. mapped_fits w r (thread_at_time now) typed (timed_fits w now) t y at } in
    subst (IsTypedState w) (if_some (nat_lt r.now now) after q e) good

-- one more thread, which is new
pub more_threads : (w : World) (r : State) (memory : Memory) (unnamed : ℕ) (x : JavaThread) → IsTypedState w r → MemoryFits w memory
    → x.thread.status ≡ New → IsTypedState w (record r { memory = memory; unnamed = unnamed; threads = r.threads ++ x ∷ [] })
more_threads w r memory unnamed x typed fits is =
    record { values = fits; threads = λ t y at. by t y (appended r.threads t y at) }
  where
    appended : (xs : List JavaThread) (n : ℕ) (y : JavaThread) → slice_get (xs ++ x ∷ []) n ≡ Some y → (x ≡ y) ⊎ (slice_get xs n ≡ Some y)
    appended [] zero y e = inl cc
    appended [] (suc n) y e = absurd cc
    appended (z ∷ xs) zero y e = inr e
    appended (z ∷ xs) (suc n) y e = appended xs n y e

    by : (t : ℕ) (y : JavaThread) → (x ≡ y) ⊎ (slice_get r.threads t ≡ Some y) → IsTypedThread w y
    by t y (inl same) = subst (IsTypedThread w) same (subst (AreOfStatus w x.frames) (sym is) tt)
    by t y (inr at) = typed.threads t y at

-- ---- monitors

pub owner_keeps : (w : World) (r : State) (o : ℕ) (owner : Option Owner) → IsTypedState w r → IsTypedState w (with_owner r o owner)
owner_keeps w r o owner typed = record { values = typed.values; threads = typed.threads }
