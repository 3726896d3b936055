-- A state by its parts, of which some have changed.
use Rattle.std.proofs.Common.{◌≡◌, ◌≢◌, ◌⊎◌, inl, inr, eqb, ℕ, zero, suc, Bool, true, false, List, [], ◌∷◌, length, Option, Some, None, refl, ap, sym, subst, ◌∙◌}
use Rattle.std.specs.Prelude.{map, slice_get, slice_set}
use Rattle.std.proofs.Math.ListN.{length-set}
use Rattle.std.specs.Option.{option_map_or}
use Rattle.std.proofs.lemmas.Bool.Decides.{eqb_tells}
use Rattle.vthread_state.specs.declared.phase.Phase.TheVariants.{Run}
use Rattle.vthread_state.specs.declared.thread.Status.TheVariants.{New, Live}
use Rattle.vthread_state.specs.declared.thread.Thread.{Thread}
use Rattle.vthread_state.specs.Threads.{Threads, threads_with, thread_at, with_thread}
use Rattle.state_model.specs.Frames.{Frame}
use Rattle.continuation.specs.Continuation.{Continuation}
use Rattle.ref_model.specs.State.{JavaThread, State, with_frames, with_thread as with_thread_in}
use Rattle.ref_model.specs.Ending.{is_live}
use Rattle.ref_model.specs.Looks.{deadline_in}
use Rattle.ref_model.proofs.StateLaws.{get_set, set_same, frames_is, frames_there}
use Rattle.schedule_soundness.specs.PutLaws.{Stays, no_thread, is_new, is_kept, OthersStay}
use Rattle.schedule_soundness.proofs.ThreadLists.{set_other, map_there}
use Rattle.program_state.specs.Monitors.{HoldsMonitors, InSameLists}
use Rattle.program_state.proofs.MonitorLaws.{monitors_kept, same_lists}
use Rattle.sleep_wheel.specs.Sleepers.{sleeper_at}
use Rattle.thread_steps.specs.declared.parts.Parts.{Parts}
use Rattle.thread_steps.specs.States.{memory_of}
use Rattle.program_state.specs.declared.state.ProgramState.{ProgramState}
use Rattle.program_state.specs.Deadlines.{HoldsDeadlines, coming_deadline, deadlines_of, key_at, later_than, with_deadline}
use Rattle.program_state.specs.States as places
use Rattle.program_state.specs.States.{HasFrames, IsInPhase, IsKept, IsState, is_started}
use Rattle.program_state.proofs.WheelLaws.{deadline_changed, deadline_stays, holds_same}

-- ---- lists

pub map_set : {A B : Type 0} (f : A → B) (xs : List A) (t : ℕ) (y : A) → map f (slice_set xs t y) ≡ slice_set (map f xs) t (f y)
map_set f [] t y = refl
map_set f (x ∷ xs) zero y = refl
map_set f (x ∷ xs) (suc t) y = ap (λ zs. f x ∷ zs) (map_set f xs t y)

pub map_back : {A B : Type 0} (f : A → B) (xs : List A) (u : ℕ) (z : B) → slice_get (map f xs) u ≡ Some z → (x : A) × (slice_get xs u ≡ Some x) × (f x ≡ z)
map_back f [] u z e = absurd cc
map_back f (x ∷ xs) zero z e = (x, refl, cc)
map_back f (x ∷ xs) (suc u) z e = map_back f xs u z e

abbrev pub row_of : JavaThread → Thread
row_of x = x.thread

-- the thread of a row
pub row_back : (a : Threads) (r : State) (u : ℕ) (row : Thread) → a.threads ≡ map (λ x. x.thread) r.threads → thread_at a u ≡ Some row
    → (x : JavaThread) × (slice_get r.threads u ≡ Some x) × (x.thread ≡ row)
row_back a r u row rows e = map_back row_of r.threads u row (ap (λ ts. slice_get ts u) (sym rows) ∙ e)

-- the row of a thread
pub row_there : (a : Threads) (r : State) (u : ℕ) (x : JavaThread) → a.threads ≡ map (λ x. x.thread) r.threads → slice_get r.threads u ≡ Some x → thread_at a u ≡ Some x.thread
row_there a r u x rows e = ap (λ ts. slice_get ts u) rows ∙ map_there row_of r.threads u x e

-- the table where a row is changed as its thread is
pub rows_set : (a : Threads) (r : State) (u : ℕ) (x y : JavaThread) (f : Thread → Thread) → a.threads ≡ map (λ x. x.thread) r.threads → slice_get r.threads u ≡ Some x
    → y.thread ≡ f x.thread → (with_thread a u f).threads ≡ map (λ x. x.thread) (slice_set r.threads u y)
rows_set a r u x y f rows e same =
    ap (threads_with f a.threads u) (row_there a r u x rows e)
    ∙ ap (λ (z : Thread). slice_set a.threads u z) (sym same)
    ∙ ap (λ ts. slice_set ts u y.thread) rows
    ∙ sym (map_set row_of r.threads u y)

-- a state in which a thread was changed
pub thread_is : (r : State) (t : ℕ) (change : JavaThread → JavaThread) (x : JavaThread) → slice_get r.threads t ≡ Some x
    → with_thread_in r t change ≡ record r { threads = slice_set r.threads t (change x) }
thread_is r t change x at = ap (λ o. option_map_or (λ z. record r { threads = slice_set r.threads t (change z) }) o r) at

-- ---- who stays

pub stays_same : (before after : Option JavaThread) → after ≡ before → Stays before after
stays_same None after e = no_thread refl e
stays_same (Some x) after e = is_kept x x refl e refl refl refl

-- all threads but one are the old ones
pub others_same : (t : ℕ) (r q : State) → ((u : ℕ) → u ≢ t → slice_get q.threads u ≡ slice_get r.threads u) → q.owners ≡ r.owners → q.now ≡ r.now → OthersStay t r q
others_same t r q same owners now =
    record { threads = λ u ne. stays_same (slice_get r.threads u) (slice_get q.threads u) (same u ne); owners = owners; now = now }

stays_made : (y : JavaThread) (z : Option JavaThread) → y.thread.status ≡ New → Stays (Some y) z → Stays None z
stays_made y z new (no_thread e f) = absurd cc
stays_made y z new (is_new x e f n) = absurd cc
stays_made y z new (is_kept x v e f status permit interrupted) =
    let same : y ≡ x = cc in is_new v refl f (status ∙ ap (λ (k : JavaThread). k.thread.status) (sym same) ∙ new)

stays_kept : (x y : JavaThread) (z : Option JavaThread) → y.thread.status ≡ x.thread.status → y.permit ≡ x.permit → y.interrupted ≡ x.interrupted
    → Stays (Some y) z → Stays (Some x) z
stays_kept x y z status permit interrupted (no_thread e f) = absurd cc
stays_kept x y z status permit interrupted (is_new v e f n) = absurd cc
stays_kept x y z status permit interrupted (is_kept u v e f s p i) =
    let same : y ≡ u = cc in
    is_kept x v refl f (s ∙ ap (λ (k : JavaThread). k.thread.status) (sym same) ∙ status) (p ∙ ap (λ (k : JavaThread). k.permit) (sym same) ∙ permit)
    (i ∙ ap (λ (k : JavaThread). k.interrupted) (sym same) ∙ interrupted)

pub stays_then : (a b c : Option JavaThread) → Stays a b → Stays b c → Stays a c
stays_then a b c (no_thread e f) y = subst (λ o. Stays o c) (sym e) (subst (λ o. Stays o c) f y)
stays_then a b c (is_new x e f new) y = subst (λ o. Stays o c) (sym e) (stays_made x c new (subst (λ o. Stays o c) f y))
stays_then a b c (is_kept x v e f status permit interrupted) y =
    subst (λ o. Stays o c) (sym e) (stays_kept x v c status permit interrupted (subst (λ o. Stays o c) f y))

pub others_then : (t : ℕ) (r s q : State) → OthersStay t r s → OthersStay t s q → OthersStay t r q
others_then t r s q a b =
    record {
      threads = λ u ne. stays_then (slice_get r.threads u) (slice_get s.threads u) (slice_get q.threads u) (a.threads u ne) (b.threads u ne);
      owners = b.owners ∙ a.owners;
      now = b.now ∙ a.now;
    }

-- ---- where frames lie

-- the same, of a thread whose frames are out
pub still_out : (u : ℕ) (out : Bool) (x y : JavaThread) (o : Option (Option Continuation)) → out ≡ true → is_started y.thread.status ≡ true
    → IsKept u out (Some x) o → IsKept u out (Some y) o
still_out u out x y o here started (places.absent e f g) = absurd cc
still_out u out x y o here started (places.mounted z e f g s) = places.mounted y e refl g started
still_out u out x y o here started (places.waiting z k e f g live t fs) = let no : true ≡ false = sym here ∙ e in absurd cc
still_out u out x y o here started (places.idle z e f g live) = let no : true ≡ false = sym here ∙ e in absurd cc

-- the same, of one with the old frames, which is live as before
pub still_lies : (u : ℕ) (out : Bool) (x y : JavaThread) (o : Option (Option Continuation)) → is_started y.thread.status ≡ is_started x.thread.status
    → is_live y.thread.status ≡ is_live x.thread.status → y.frames ≡ x.frames → IsKept u out (Some x) o → IsKept u out (Some y) o
still_lies u out x y o started alive frames (places.absent e f g) = absurd cc
still_lies u out x y o started alive frames (places.mounted z e f g s) =
    let same : x ≡ z = cc in places.mounted y e refl g (started ∙ ap (λ (k : JavaThread). is_started k.thread.status) same ∙ s)
still_lies u out x y o started alive frames (places.waiting z k e f g live t fs) =
    let same : x ≡ z = cc in
    places.waiting y k e refl g (alive ∙ ap (λ (k : JavaThread). is_live k.thread.status) same ∙ live) t (fs ∙ ap (λ (k : JavaThread). k.frames) (sym same) ∙ sym frames)
still_lies u out x y o started alive frames (places.idle z e f g live) =
    let same : x ≡ z = cc in places.idle y e refl g (alive ∙ ap (λ (k : JavaThread). is_live k.thread.status) same ∙ live)

pub still_kept : (u : ℕ) (out : Bool) (x y : JavaThread) (o : Option (Option Continuation)) → y.thread.status ≡ x.thread.status → y.frames ≡ x.frames
    → IsKept u out (Some x) o → IsKept u out (Some y) o
still_kept u out x y o status frames = still_lies u out x y o (ap is_started status) (ap is_live status) frames

-- ---- one thread of a state has changed

-- each fact of the threads
pub set_each : (P : ℕ → Option JavaThread → Type 0) (r : State) (t : ℕ) (x y : JavaThread) → slice_get r.threads t ≡ Some x
    → ((u : ℕ) → P u (slice_get r.threads u)) → P t (Some y) → (u : ℕ) → P u (slice_get (slice_set r.threads t y) u)
set_each P r t x y at all own u = by (eqb_tells u t)
  where
    by : ((eqb u t ≡ true) × (u ≡ t)) ⊎ ((eqb u t ≡ false) × (u ≢ t)) → P u (slice_get (slice_set r.threads t y) u)
    by (inl me) =
        subst (λ n. P n (slice_get (slice_set r.threads t y) n)) (sym me.1) (subst (P t) (sym (get_set r.threads t x y at)) own)
    by (inr other) = subst (P u) (sym (set_other r.threads t u y other.1)) (all u)

-- the parts of a state, after those of another one, in which thread t is y now
pub record IsPut (a new : ProgramState) (r : State) (t : ℕ) (y : JavaThread) : Type 0 where
  pub run : new.memory.status ≡ Live Run
  pub rows : new.threads.threads ≡ map (λ x. x.thread) (slice_set r.threads t y)
  pub limit : new.threads.limit ≡ a.threads.limit
  pub most_threads : new.most_threads ≡ a.most_threads
  pub monitors : HoldsMonitors new.monitors (slice_set r.threads t y) r.owners
  pub permits : new.wakes.permits ≡ slice_set a.wakes.permits t y.permit
  pub interrupts : new.wakes.interrupts ≡ slice_set a.wakes.interrupts t y.interrupted
  pub unnamed : new.unnamed ≡ a.unnamed
  pub time : new.time ≡ a.time
  pub places : length new.keys.items ≡ length a.keys.items
  pub wheel : HoldsDeadlines (sleeper_at new.wheel) (key_at new.keys.items) (with_deadline (deadlines_of r.now r.threads) t (later_than r.now (deadline_in y.thread.status)))

abbrev pub permit_of : JavaThread → Bool
permit_of x = x.permit

abbrev pub interrupt_of : JavaThread → Bool
interrupt_of x = x.interrupted

pub deadlines_put : (now : ℕ) (threads : List JavaThread) (t u : ℕ) (x y : JavaThread) → slice_get threads t ≡ Some x
    → deadlines_of now (slice_set threads t y) u ≡ with_deadline (deadlines_of now threads) t (later_than now (deadline_in y.thread.status)) u
deadlines_put now threads t u x y at = by (eqb_tells u t)
  where
    until : Option ℕ
    until = later_than now (deadline_in y.thread.status)

    by : ((eqb u t ≡ true) × (u ≡ t)) ⊎ ((eqb u t ≡ false) × (u ≢ t)) → deadlines_of now (slice_set threads t y) u ≡ with_deadline (deadlines_of now threads) t until u
    by (inl me) =
        ap (coming_deadline now) (ap (λ n. slice_get (slice_set threads t y) n) me.1 ∙ get_set threads t x y at) ∙ sym (deadline_changed (deadlines_of now threads) t u until me.1)
    by (inr other) = ap (coming_deadline now) (set_other threads t u y other.1) ∙ sym (deadline_stays (deadlines_of now threads) t u until other.1)

-- Thread t is y now, and the parts fit; its frames lie where they may.
pub thread_put : (a new : ProgramState) (r : State) (out : ℕ → Bool) (t : ℕ) (x y : JavaThread) → IsState a r out → slice_get r.threads t ≡ Some x → IsPut a new r t y
    → ((u : ℕ) → IsKept u (out u) (slice_get (slice_set r.threads t y) u) (slice_get new.frozen.items u))
    → IsState new (record r { memory = memory_of new.memory; main_threw = new.memory.main_threw; threads = slice_set r.threads t y }) out
thread_put a new r out t x y is at put kept =
    record {
      status = put.run;
      memory = refl;
      main_threw = refl;
      rows = put.rows;
      most_threads = put.most_threads ∙ is.most_threads;
      limit = put.limit ∙ is.limit;
      permits = put.permits ∙ ap (λ fs. slice_set fs t y.permit) is.permits ∙ sym (map_set permit_of r.threads t y);
      interrupts = put.interrupts ∙ ap (λ fs. slice_set fs t y.interrupted) is.interrupts ∙ sym (map_set interrupt_of r.threads t y);
      unnamed = put.unnamed ∙ is.unnamed;
      monitors = put.monitors;
      now = put.time ∙ is.now;
      places = put.places ∙ is.places ∙ sym (length-set r.threads t y);
      wheel = holds_same (sleeper_at new.wheel) (sleeper_at new.wheel) (key_at new.keys.items) (key_at new.keys.items)
          (with_deadline (deadlines_of r.now r.threads) t (later_than r.now (deadline_in y.thread.status))) (deadlines_of r.now (slice_set r.threads t y)) (λ k. refl) (λ u. refl)
          (λ u. deadlines_put r.now r.threads t u x y at) put.wheel;
      kept = kept;
    }

-- the frames lie where they lay, but for those of the thread
pub kept_put : (frozen : List (Option Continuation)) (r : State) (out : ℕ → Bool) (t : ℕ) (x y : JavaThread) → slice_get r.threads t ≡ Some x
    → ((u : ℕ) → IsKept u (out u) (slice_get r.threads u) (slice_get frozen u))
    → (IsKept t (out t) (Some x) (slice_get frozen t) → IsKept t (out t) (Some y) (slice_get frozen t))
    → (u : ℕ) → IsKept u (out u) (slice_get (slice_set r.threads t y) u) (slice_get frozen u)
kept_put frozen r out t x y at kept keeps =
    set_each (λ u o. IsKept u (out u) o (slice_get frozen u)) r t x y at kept (keeps (subst (λ o. IsKept t (out t) o (slice_get frozen t)) at (kept t)))

-- ---- what doesn't change with a thread

-- a list of flags has the thread's flag already
flag_same : (f : JavaThread → Bool) (flags : List Bool) (r : State) (t : ℕ) (x : JavaThread) (flag : Bool) → flags ≡ map f r.threads → slice_get r.threads t ≡ Some x → flag ≡ f x
    → flags ≡ slice_set flags t flag
flag_same f flags r t x flag is at same = sym (set_same flags t flag (ap (λ fs. slice_get fs t) is ∙ map_there f r.threads t x at ∙ ap (λ (b : Bool). Some b) (sym same)))

pub permits_same : (a : ProgramState) (r : State) (out : ℕ → Bool) (t : ℕ) (x : JavaThread) (permit : Bool) → IsState a r out → slice_get r.threads t ≡ Some x → permit ≡ x.permit
    → a.wakes.permits ≡ slice_set a.wakes.permits t permit
permits_same a r out t x permit is at same = flag_same permit_of a.wakes.permits r t x permit is.permits at same

pub interrupts_same : (a : ProgramState) (r : State) (out : ℕ → Bool) (t : ℕ) (x : JavaThread) (interrupted : Bool) → IsState a r out → slice_get r.threads t ≡ Some x → interrupted ≡ x.interrupted
    → a.wakes.interrupts ≡ slice_set a.wakes.interrupts t interrupted
interrupts_same a r out t x interrupted is at same = flag_same interrupt_of a.wakes.interrupts r t x interrupted is.interrupts at same

-- the wheel, where the thread has the old deadline
pub wheel_same : (a : ProgramState) (r : State) (out : ℕ → Bool) (t : ℕ) (x y : JavaThread) → IsState a r out → slice_get r.threads t ≡ Some x
    → deadline_in y.thread.status ≡ deadline_in x.thread.status
    → HoldsDeadlines (sleeper_at a.wheel) (key_at a.keys.items) (with_deadline (deadlines_of r.now r.threads) t (later_than r.now (deadline_in y.thread.status)))
wheel_same a r out t x y is at same =
    holds_same (sleeper_at a.wheel) (sleeper_at a.wheel) (key_at a.keys.items) (key_at a.keys.items) (deadlines_of r.now r.threads)
    (with_deadline (deadlines_of r.now r.threads) t until) (λ k. refl) (λ u. refl) (λ u. by u (eqb_tells u t)) is.wheel
  where
    until : Option ℕ
    until = later_than r.now (deadline_in y.thread.status)

    by : (u : ℕ) → ((eqb u t ≡ true) × (u ≡ t)) ⊎ ((eqb u t ≡ false) × (u ≢ t)) → with_deadline (deadlines_of r.now r.threads) t until u ≡ deadlines_of r.now r.threads u
    by u (inl me) =
        deadline_changed (deadlines_of r.now r.threads) t u until me.1 ∙ ap (later_than r.now) same
        ∙ sym (ap (coming_deadline r.now) (ap (slice_get r.threads) me.1 ∙ at))
    by u (inr other) = deadline_stays (deadlines_of r.now r.threads) t u until other.1

-- the table, where the thread has the old row
pub rows_same : (a : ProgramState) (r : State) (out : ℕ → Bool) (t : ℕ) (x y : JavaThread) → IsState a r out → slice_get r.threads t ≡ Some x → y.thread ≡ x.thread
    → a.threads.threads ≡ map (λ x. x.thread) (slice_set r.threads t y)
rows_same a r out t x y is at same =
    is.rows ∙ sym (map_set row_of r.threads t y ∙ ap (slice_set (map row_of r.threads) t) same
    ∙ set_same (map row_of r.threads) t x.thread (map_there row_of r.threads t x at))

-- A thread is in the old lists of monitors, and has the old permit, interrupt status and deadline.
pub record IsAlike (x y : JavaThread) : Type 0 where
  pub lists : InSameLists x.thread.status y.thread.status
  pub permit : y.permit ≡ x.permit
  pub interrupted : y.interrupted ≡ x.interrupted
  pub deadline : deadline_in y.thread.status ≡ deadline_in x.thread.status

-- Thread t is y now, and the parts with the memory and the table are these; the others are as they were.
pub thread_changed : (a : ProgramState) (b : Parts) (table : Threads) (r : State) (out : ℕ → Bool) (t : ℕ) (x y : JavaThread) → IsState a r out
    → slice_get r.threads t ≡ Some x → b.status ≡ Live Run → table.threads ≡ map (λ x. x.thread) (slice_set r.threads t y) → table.limit ≡ a.threads.limit → IsAlike x y
    → (IsKept t (out t) (Some x) (slice_get a.frozen.items t) → IsKept t (out t) (Some y) (slice_get a.frozen.items t))
    → IsState (record a { memory = b; threads = table }) (record r { memory = memory_of b; main_threw = b.main_threw; threads = slice_set r.threads t y }) out
thread_changed a b table r out t x y is at run rows limit alike keeps =
    thread_put a (record a { memory = b; threads = table }) r out t x y is at
    (record {
      run = run;
      rows = rows;
      limit = limit;
      most_threads = refl;
      monitors = monitors_kept a.monitors r.threads r.owners t x y is.monitors at alike.lists;
      permits = permits_same a r out t x y.permit is at alike.permit;
      interrupts = interrupts_same a r out t x y.interrupted is at alike.interrupted;
      unnamed = refl;
      time = refl;
      places = refl;
      wheel = wheel_same a r out t x y is at alike.deadline;
    })
    (kept_put a.frozen.items r out t x y at is.kept keeps)

-- the memory and what it has beside are the state's own
pub own_memory : (a : ProgramState) (r : State) (out : ℕ → Bool) (threads : List JavaThread) → IsState a r out
    → (record r { memory = memory_of a.memory; main_threw = a.memory.main_threw; threads = threads }) ≡ (record r { threads = threads })
own_memory a r out threads is = λ i. record r { memory = is.memory i; main_threw = is.main_threw i; threads = threads }

-- ---- frames of a thread that is out

pub frames_had : (r : State) (t : ℕ) (x : JavaThread) (frames : List Frame) → slice_get r.threads t ≡ Some x → HasFrames (with_frames r t frames) t frames
frames_had r t x frames at = record { thread = record x { frames = frames }; at = frames_there r t x frames at; has = refl }

out_there : (u : ℕ) (out : Bool) (o : Option JavaThread) (k : Option (Option Continuation)) → out ≡ true → IsKept u out o k
    → (x : JavaThread) × (o ≡ Some x) × (is_started x.thread.status ≡ true)
out_there u out o k here (places.absent e f g) = let no : true ≡ false = sym here ∙ e in absurd cc
out_there u out o k here (places.mounted z e f g s) = (z, f, s)
out_there u out o k here (places.waiting z c e f g live t fs) = let no : true ≡ false = sym here ∙ e in absurd cc
out_there u out o k here (places.idle z e f g live) = let no : true ≡ false = sym here ∙ e in absurd cc

-- a thread that is out is there, and was started
pub out_is_there : (a : ProgramState) (r : State) (out : ℕ → Bool) (t : ℕ) → IsState a r out → out t ≡ true
    → (x : JavaThread) × (slice_get r.threads t ≡ Some x) × (is_started x.thread.status ≡ true)
out_is_there a r out t is here = out_there t (out t) (slice_get r.threads t) (slice_get a.frozen.items t) here (is.kept t)

-- It may have other frames.
pub other_frames : (a : ProgramState) (r : State) (out : ℕ → Bool) (t : ℕ) (frames : List Frame) → IsState a r out → out t ≡ true → IsState a (with_frames r t frames) out
other_frames a r out t frames is here =
    let x = out_is_there a r out t is here in
    let y : JavaThread = record x.0 { frames = frames } in
    let changed = thread_changed a a.memory a.threads r out t x.0 y is x.1 is.status (rows_same a r out t x.0 y is x.1 refl) refl
    (record { lists = same_lists x.0.thread.status y.thread.status refl; permit = refl; interrupted = refl; deadline = refl })
    (still_out t (out t) x.0 y (slice_get a.frozen.items t) here x.2) in
    subst (λ q. IsState a q out) (own_memory a r out (slice_set r.threads t y) is ∙ sym (frames_is r t x.0 frames x.1)) changed
