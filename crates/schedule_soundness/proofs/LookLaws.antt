-- The look of a state, thread by thread.
use Rattle.std.proofs.Common.{◌≡◌, ◌<◌, ℕ, Bool, true, false, List, [], length, Option, Some, None, refl, ap, ◌∙◌, ◌&&◌, ◌||◌, not}
use Rattle.std.specs.Prelude.{is_none, is_some, nat_lt, slice_get}
use Rattle.std.specs.Option.{option_map_or}
use Rattle.std.proofs.lemmas.Bool.{and_parts, or_left, or_right}
use Rattle.std.proofs.lemmas.Option.{slice_get_within}
use Rattle.vthread_state.specs.declared.phase.Phase.TheVariants.{Run, Throwing, Entering, Waiting, Reenter, Parked, Asleep, Joining}
use Rattle.vthread_state.specs.declared.thread.Status.{Status}
use Rattle.vthread_state.specs.declared.thread.Status.TheVariants.{New, Live, Done}
use Rattle.link_model.specs.World.{World}
use Rattle.state_model.specs.Frames.{Frame}
use Rattle.schedule_model.specs.Look.{IsLook, in_no_list, in_wait_list, in_entry_list, is_live as is_live_spot}
use Rattle.ref_model.specs.State.{JavaThread, Owner, State}
use Rattle.ref_model.specs.Ending.{ending, is_live}
use Rattle.ref_model.specs.Waiting.{is_reached}
use Rattle.ref_model.specs.Enabled.{is_ready, has_ended}
use Rattle.ref_model.specs.Looks.{spot_of, pins_of, is_pinned, look_of}
use Rattle.schedule_soundness.proofs.OtherMoves.{phase_live}
pub use Rattle.schedule_soundness.proofs.OtherMoves.{spot_at}

-- ---- what a look says of a thread, by the thread

abbrev pub ready_at : State → Option JavaThread → Bool
ready_at r o = option_map_or (λ (x : JavaThread). is_ready r x x.thread.status) o false

abbrev pub pinned_at : World → Option JavaThread → Bool
pinned_at w o = option_map_or (is_pinned w) o false

-- a thread that isn't live has no frames
abbrev pub Idle : State → Type 0
Idle r = (t : ℕ) (x : JavaThread) → slice_get r.threads t ≡ Some x → is_live x.thread.status ≡ false → x.frames ≡ []

-- ---- looks are looks

ready_live : (r : State) (x : JavaThread) (status : Status) → is_ready r x status ≡ true → is_live_spot (spot_of status) ≡ true
ready_live r x New e = absurd cc
ready_live r x (Live phase) e = phase_live phase
ready_live r x Done e = absurd cc

pub thread_live : (r : State) (o : Option JavaThread) → ready_at r o ≡ true → is_live_spot (spot_at o) ≡ true
thread_live r None e = absurd cc
thread_live r (Some x) e = ready_live r x x.thread.status e

waits_off : (r : State) (x : JavaThread) (status : Status) (o : ℕ) → spot_of status ≡ in_wait_list o → is_ready r x status ≡ false
waits_off r x New o e = refl
waits_off r x Done o e = refl
waits_off r x (Live (Waiting p count deadline)) o e = refl
waits_off r x (Live (Entering p)) o e = absurd cc
waits_off r x (Live (Reenter p count wake)) o e = absurd cc
waits_off r x (Live phase) o e = absurd cc

thread_off : (r : State) (m : Option JavaThread) (o : ℕ) → spot_at m ≡ in_wait_list o → ready_at r m ≡ false
thread_off r None o e = refl
thread_off r (Some x) o e = waits_off r x x.thread.status o e

free_is : (o : Option Owner) → is_none o ≡ not (is_some o)
free_is None = refl
free_is (Some x) = refl

free_at : (r : State) (p o : ℕ) → in_entry_list p ≡ in_entry_list o → is_none (r.owners p) ≡ not (is_some (r.owners o))
free_at r p o e = let same : p ≡ o = cc in ap (λ n. is_none (r.owners n)) same ∙ free_is (r.owners o)

line_ready : (r : State) (x : JavaThread) (status : Status) (o : ℕ) → spot_of status ≡ in_entry_list o
    → is_ready r x status ≡ not (is_some (r.owners o))
line_ready r x New o e = absurd cc
line_ready r x Done o e = absurd cc
line_ready r x (Live (Entering p)) o e = free_at r p o e
line_ready r x (Live (Reenter p count wake)) o e = free_at r p o e
line_ready r x (Live (Waiting p count deadline)) o e = absurd cc
line_ready r x (Live phase) o e = absurd cc

thread_line : (r : State) (m : Option JavaThread) (o : ℕ) → spot_at m ≡ in_entry_list o → ready_at r m ≡ not (is_some (r.owners o))
thread_line r None o e = absurd cc
thread_line r (Some x) o e = line_ready r x x.thread.status o e

pub going_on : {A : Type 0} (o : Option A) (b : Bool) → is_some o ≡ false → (is_none o && b) ≡ b
going_on None b e = refl
going_on (Some x) b e = absurd cc

over_off : {A : Type 0} (o : Option A) (b : Bool) → is_some o ≡ true → (is_none o && b) ≡ false
over_off None b e = absurd cc
over_off (Some x) b e = refl

both_off : {A : Type 0} (o : Option A) (b : Bool) → b ≡ false → (is_none o && b) ≡ false
both_off None b e = e
both_off (Some x) b e = refl

pub no_pins : (w : World) (frames : List Frame) → frames ≡ [] → nat_lt 0 (pins_of w frames) ≡ false
no_pins w frames e = ap (λ fs. nat_lt 0 (pins_of w fs)) e

pinned_live : (w : World) (m : Option JavaThread) → ((x : JavaThread) → m ≡ Some x → is_live x.thread.status ≡ false → x.frames ≡ [])
    → pinned_at w m ≡ true → is_live_spot (spot_at m) ≡ true
pinned_live w None idle e = absurd cc
pinned_live w (Some x) idle e = by x.thread.status refl
  where
    off : (b : Bool) → b ≡ true → b ≡ false → ⊥
    off b i j = absurd cc

    by : (status : Status) → x.thread.status ≡ status → is_live_spot (spot_of status) ≡ true
    by New is = absurd (off (is_pinned w x) e (no_pins w x.frames (idle x refl (ap is_live is))))
    by (Live phase) is = phase_live phase
    by Done is = absurd (off (is_pinned w x) e (no_pins w x.frames (idle x refl (ap is_live is))))

made_low : (xs : List JavaThread) (t : ℕ) (m : Option JavaThread) → slice_get xs t ≡ m → is_live_spot (spot_at m) ≡ true → t < length xs
made_low xs t None e on = absurd cc
made_low xs t (Some x) e on = slice_get_within xs t x e

pub is_look : (w : World) (r : State) → Idle r → IsLook (look_of w r)
is_look w r idle =
    record {
      live = λ t e. thread_live r (slice_get r.threads t) (and_parts (is_none (ending r)) (ready_at r (slice_get r.threads t)) e).1;
      waits = λ t o e. both_off (ending r) (ready_at r (slice_get r.threads t)) (thread_off r (slice_get r.threads t) o e);
      line = λ t o goes e. going_on (ending r) (ready_at r (slice_get r.threads t)) goes ∙ thread_line r (slice_get r.threads t) o e;
      over = λ t e. over_off (ending r) (ready_at r (slice_get r.threads t)) e;
      pinned = λ t e. pinned_live w (slice_get r.threads t) (λ x at. idle t x at) e;
      made = λ t e. made_low r.threads t (slice_get r.threads t) refl e;
    }

-- ---- who may go on still may

or_both : (a b c d : Bool) → (a ≡ true → c ≡ true) → (b ≡ true → d ≡ true) → (a || b) ≡ true → (c || d) ≡ true
or_both true b c d f g e = or_left c d (f refl)
or_both false b c d f g e = or_right c d (g e)

-- what has come about stays so: a time that is reached, and the end of a thread
pub record Rises (r q : State) : Type 0 where
  pub reached : (deadline : Option ℕ) → is_reached r.now deadline ≡ true → is_reached q.now deadline ≡ true
  pub ended : (t : ℕ) → has_ended r t ≡ true → has_ended q t ≡ true

pub ready_stays : (r q : State) (x y : JavaThread) (status : Status) → Rises r q → (x.permit ≡ true → y.permit ≡ true)
    → (x.interrupted ≡ true → y.interrupted ≡ true) → spot_of status ≡ in_no_list → is_ready r x status ≡ true → is_ready q y status ≡ true
ready_stays r q x y New rises permit interrupted free e = absurd cc
ready_stays r q x y Done rises permit interrupted free e = absurd cc
ready_stays r q x y (Live Run) rises permit interrupted free e = refl
ready_stays r q x y (Live (Throwing o)) rises permit interrupted free e = refl
ready_stays r q x y (Live (Entering o)) rises permit interrupted free e = absurd cc
ready_stays r q x y (Live (Waiting o count deadline)) rises permit interrupted free e = absurd cc
ready_stays r q x y (Live (Reenter o count wake)) rises permit interrupted free e = absurd cc
ready_stays r q x y (Live (Parked deadline)) rises permit interrupted free e =
    or_both x.permit (x.interrupted || is_reached r.now deadline) y.permit (y.interrupted || is_reached q.now deadline) permit
    (or_both x.interrupted (is_reached r.now deadline) y.interrupted (is_reached q.now deadline) interrupted (rises.reached deadline)) e
ready_stays r q x y (Live (Asleep deadline)) rises permit interrupted free e =
    or_both x.interrupted (is_reached r.now (Some deadline)) y.interrupted (is_reached q.now (Some deadline)) interrupted
    (rises.reached (Some deadline)) e
ready_stays r q x y (Live (Joining u deadline)) rises permit interrupted free e =
    or_both (has_ended r u) (x.interrupted || is_reached r.now deadline) (has_ended q u) (y.interrupted || is_reached q.now deadline)
    (rises.ended u)
    (or_both x.interrupted (is_reached r.now deadline) y.interrupted (is_reached q.now deadline) interrupted (rises.reached deadline)) e
