-- The state with the frames that a carrier has made ahead.
use Rattle.std.proofs.Common.{◌≡◌, ◌≢◌, ℕ, zero, suc, true, false, List, Option, None, Some, refl, ap, sym, subst, ◌∙◌, arith, cond}
use Rattle.std.specs.Prelude.{is_none, slice_get, slice_set}
use Rattle.std.proofs.Math.ListN.{length-set}
use Rattle.std.specs.Option.{option_map_or}
use Rattle.std.proofs.lemmas.Bool.{and_parts}
use Rattle.items.proofs.Binds.{bind_is}
use Rattle.vthread_state.specs.declared.phase.Phase.TheVariants.{Run}
use Rattle.vthread_state.specs.declared.thread.Status.{Status}
use Rattle.vthread_state.specs.declared.thread.Status.TheVariants.{New, Live, Done}
use Rattle.link_model.specs.World.{World}
use Rattle.state_model.specs.Frames.{Frame}
use Rattle.schedule_model.specs.Run.{Scheduled}
use Rattle.ref_model.specs.Setting.{Setting}
use Rattle.ref_model.specs.State.{JavaThread, State, frames_at, running_frames, with_frames}
use Rattle.ref_model.specs.Enabled.{has_ended, is_done, is_ready}
use Rattle.ref_model.specs.Ending.{ending}
use Rattle.ref_model.specs.Looks.{spot_of}
use Rattle.ref_model.specs.Step.{enabled, picking_step, step, thread_step}
use Rattle.ref_model.proofs.StateLaws.{frames_is, set_same}
use Rattle.schedule_soundness.specs.EntryLaws.{IsAhead}
use Rattle.schedule_soundness.specs.PutLaws.{OthersStay, OthersStayBeside, Stays}
use Rattle.schedule_soundness.proofs.LocalSteps.{frames_local}
use Rattle.schedule_soundness.proofs.ThreadLists.{set_other}
use Rattle.monitors.specs.Monitors.{Monitors}
use Rattle.schedule_model.specs.Look.{absent, is_in_line}
use Rattle.monitor_soundness.specs.MonitorPuts.{LosesOwner, MonitorStep, Notifies, StaysOrIsNotified}
use Rattle.program_state.specs.Monitors.{spot_at}
use Rattle.program_state.specs.Steps.{Awakes, IsWoken, PutsNobody, Starts, Tells, Wakes, gets, keeps_monitor, leaves_others, lines_up, notifies, tells}
use Rattle.monitor_steps.specs.Outcomes.{StaysOrKeeps, others_stay, owner_stays}
use Rattle.machine.specs.Hands.{HasHand}
use Rattle.machine.specs.Moves.{FreesFirst, step_with}

-- ---- whether it may step

pub frames_running : (r : State) (t : ℕ) (x : JavaThread) → slice_get r.threads t ≡ Some x → x.thread.status ≡ Live Run → frames_at r t ≡ Some x.frames
frames_running r t x at running =
    bind_is (slice_get r.threads t) (λ (y : JavaThread). running_frames y.frames y.thread.status) x (Some x.frames) at
    (ap (running_frames x.frames) running)

own_frames : (r : State) (t : ℕ) (x : JavaThread) → slice_get r.threads t ≡ Some x → with_frames r t x.frames ≡ r
own_frames r t x at =
    frames_is r t x x.frames at ∙ ap (λ (ts : List JavaThread). record r { threads = ts }) (set_same r.threads t x at)

same_list : (xs ys : List Frame) → ◌≡◌ {A = Option (List Frame)} (Some xs) (Some ys) → xs ≡ ys
same_list xs ys e = cc

pub ahead_enabled : (w : World) (r : State) (t n : ℕ) (frames : List Frame) → IsAhead w r t n frames → enabled (with_frames r t frames) t ≡ enabled r t
ahead_enabled w r t zero frames h =
    let same : h.thread.frames ≡ frames = same_list h.thread.frames frames h.ahead in
    ap (λ s. enabled s t) (ap (λ fs. with_frames r t fs) (sym same) ∙ own_frames r t h.thread h.at)
ahead_enabled w r t (suc n) frames h =
    (frames_local w r t h.thread.frames frames (frames_running r t h.thread h.at (h.running (omega arith)))).enabled t

-- so a step of the thread is defined there
pub ahead_step : (p : Setting) (r q : State) (t n : ℕ) (frames : List Frame) (pick : Option ℕ) → IsAhead p.world r t n frames → enabled r t ≡ true
    → step_with p.world t pick (with_frames r t frames) ≡ Some q → step p (with_frames r t frames) t pick ≡ Some q
ahead_step p r q t n frames None h on made =
    ap (λ b. cond b (thread_step p.world (with_frames r t frames) t) None) (ahead_enabled p.world r t n frames h ∙ on) ∙ made
ahead_step p r q t n frames (Some u) h on made =
    ap (λ b. cond b (picking_step p.world (with_frames r t frames) t u) None) (ahead_enabled p.world r t n frames h ∙ on) ∙ made

-- ---- the thread that may step is live

none_is : {A : Type 0} (o : Option A) → is_none o ≡ true → o ≡ None
none_is None e = refl
none_is (Some x) e = absurd cc

pub enabled_going : (r : State) (t : ℕ) → enabled r t ≡ true → ending r ≡ None
enabled_going r t on = none_is (ending r) (and_parts (is_none (ending r)) _ on).0

ready_alive : (r : State) (x : JavaThread) (status : Status) → is_ready r x status ≡ true → is_done status ≡ false
ready_alive r x New e = absurd cc
ready_alive r x (Live phase) e = refl
ready_alive r x Done e = absurd cc

pub enabled_alive : (r : State) (t : ℕ) (x : JavaThread) → slice_get r.threads t ≡ Some x → enabled r t ≡ true → has_ended r t ≡ false
enabled_alive r t x at on =
    let ready = (and_parts (is_none (ending r)) _ on).1 in
    let is : is_ready r x x.thread.status ≡ true =
    sym (ap (λ o. option_map_or (λ (y : JavaThread). is_ready r y y.thread.status) o false) at) ∙ ready in
    ap (λ o. option_map_or (λ (y : JavaThread). is_done y.thread.status) o false) at ∙ ready_alive r x x.thread.status is

-- ---- what the step does to others it does from the state before

pub ahead_stays : (r q : State) (t : ℕ) (x : JavaThread) (frames : List Frame) → slice_get r.threads t ≡ Some x → OthersStay t (with_frames r t frames) q
    → OthersStay t r q
ahead_stays r q t x frames at h =
    let y : JavaThread = record x { frames = frames } in
    let s : State = record r { threads = slice_set r.threads t y } in
    let g = subst (λ z. OthersStay t z q) (frames_is r t x frames at) h in
    record {
      threads = λ u ne. subst (λ o. Stays o (slice_get q.threads u)) (set_other r.threads t u y ne) (g.threads u ne);
      owners = g.owners;
      now = g.now;
    }

-- another thread is as it was before
ahead_beside : (r q : State) (t u : ℕ) (y : JavaThread) → OthersStayBeside t u (record r { threads = slice_set r.threads t y }) q → OthersStayBeside t u r q
ahead_beside r q t u y h = record {
  threads = λ k ne elsewhere. subst (λ o. Stays o (slice_get q.threads k)) (set_other r.threads t k y ne) (h.threads k ne elsewhere);
  owners = h.owners;
  now = h.now;
}

ahead_woken : (r q : State) (t u : ℕ) (y : JavaThread) → u ≢ t → IsWoken u (record r { threads = slice_set r.threads t y }) q → IsWoken u r q
ahead_woken r q t u y other h = record {
  old = h.old;
  new = h.new;
  was = sym (set_other r.threads t u y other) ∙ h.was;
  is = h.is;
  live = h.live;
  status = h.status;
  permit = h.permit;
  interrupted = h.interrupted;
}

ahead_line : (r : State) (t u : ℕ) (y : JavaThread) → u ≢ t → is_in_line (spot_at (slice_set r.threads t y) u) ≡ is_in_line (spot_at r.threads u)
ahead_line r t u y other =
    ap (λ o. is_in_line (option_map_or (λ (x : JavaThread). spot_of x.thread.status) o absent)) (set_other r.threads t u y other)

pub ahead_starts : (r q : State) (t u : ℕ) (x : JavaThread) (frames : List Frame) → slice_get r.threads t ≡ Some x → u ≢ t
    → Starts t u (with_frames r t frames) q → Starts t u r q
ahead_starts r q t u x frames at other h =
    let y : JavaThread = record x { frames = frames } in
    let g = subst (λ z. Starts t u z q) (frames_is r t x frames at) h in
    record {
      others = ahead_beside r q t u y g.others;
      new = record { thread = g.new.thread; there = sym (set_other r.threads t u y other) ∙ g.new.there; status = g.new.status };
      live = g.live;
      count = g.count ∙ length-set r.threads t y;
    }

pub ahead_wakes : (r q : State) (t u : ℕ) (x : JavaThread) (frames : List Frame) → slice_get r.threads t ≡ Some x → Wakes t u (with_frames r t frames) q
    → Wakes t u r q
ahead_wakes r q t u x frames at h =
    let y : JavaThread = record x { frames = frames } in
    let g = subst (λ z. Wakes t u z q) (frames_is r t x frames at) h in
    record {
      other = g.other;
      others = ahead_beside r q t u y g.others;
      woken = awakes g.other g.woken;
      count = g.count ∙ length-set r.threads t y;
    }
  where
    awakes : u ≢ t → Awakes u (record r { threads = slice_set r.threads t (record x { frames = frames }) }) q → Awakes u r q
    awakes other (gets woken off) =
        let y : JavaThread = record x { frames = frames } in
        gets (ahead_woken r q t u y other woken) (sym (ahead_line r t u y other) ∙ off)
    awakes other (lines_up i) =
        let y : JavaThread = record x { frames = frames } in
        lines_up record {
          old = i.old;
          new = i.new;
          was = sym (set_other r.threads t u y other) ∙ i.was;
          is = i.is;
          monitor = i.monitor;
          count = i.count;
          deadline = i.deadline;
          waited = i.waited;
          reenters = i.reenters;
        }

pub ahead_monitor : (r q : State) (t o : ℕ) (x : JavaThread) (frames : List Frame) → slice_get r.threads t ≡ Some x
    → MonitorStep t o (with_frames r t frames) q → MonitorStep t o r q
ahead_monitor r q t o x frames at h =
    let y : JavaThread = record x { frames = frames } in
    let g = subst (λ z. MonitorStep t o z q) (frames_is r t x frames at) h in
    record {
      threads = λ u ne. subst (λ p. Stays p (slice_get q.threads u)) (set_other r.threads t u y ne) (g.threads u ne);
      owners = g.owners;
      now = g.now;
    }

ahead_notifies : (r q : State) (t o : ℕ) (x : JavaThread) (frames : List Frame) → slice_get r.threads t ≡ Some x
    → Notifies t o (with_frames r t frames) q → Notifies t o r q
ahead_notifies r q t o x frames at h =
    let y : JavaThread = record x { frames = frames } in
    let g = subst (λ z. Notifies t o z q) (frames_is r t x frames at) h in
    record {
      threads = λ u ne. subst (λ p. StaysOrIsNotified o p (slice_get q.threads u)) (set_other r.threads t u y ne) (g.threads u ne);
      owners = g.owners;
      now = g.now;
      owned = g.owned;
    }

ahead_tells : (r q : State) (t u : ℕ) (x : JavaThread) (frames : List Frame) → slice_get r.threads t ≡ Some x → Tells t u (with_frames r t frames) q
    → Tells t u r q
ahead_tells r q t u x frames at h =
    let y : JavaThread = record x { frames = frames } in
    let g = subst (λ z. Tells t u z q) (frames_is r t x frames at) h in
    record {
      other = g.other;
      others = ahead_beside r q t u y g.others;
      told = ahead_woken r q t u y g.other g.told;
      in_line = sym (ahead_line r t u y g.other) ∙ g.in_line;
    }

-- a monitor loses its owner, or lets nobody go on
ahead_loses : (r q : State) (t o : ℕ) (x : JavaThread) (frames : List Frame) → slice_get r.threads t ≡ Some x
    → LosesOwner o (with_frames r t frames) q → LosesOwner o r q
ahead_loses r q t o x frames at h =
    let g = subst (λ z. LosesOwner o z q) (frames_is r t x frames at) h in
    record { was = g.was; is = g.is }

pub ahead_frees : (r q : State) (t : ℕ) (x : JavaThread) (frames : List Frame) (monitors : Monitors) (first : Option ℕ) → slice_get r.threads t ≡ Some x
    → FreesFirst monitors first t (with_frames r t frames) q → FreesFirst monitors first t r q
ahead_frees r q t x frames monitors first at h = record {
  monitor = h.monitor;
  frees = record {
    step = ahead_monitor r q t h.monitor x frames at h.frees.step;
    loses = ahead_loses r q t h.monitor x frames at h.frees.loses;
  };
  first_is = h.first_is;
}

pub ahead_keeps : (r q : State) (t : ℕ) (x : JavaThread) (frames : List Frame) → slice_get r.threads t ≡ Some x
    → StaysOrKeeps t (with_frames r t frames) q → StaysOrKeeps t r q
ahead_keeps r q t x frames at (others_stay others) = others_stay (ahead_stays r q t x frames at others)
ahead_keeps r q t x frames at (owner_stays o step owned) = owner_stays o (ahead_monitor r q t o x frames at step) owned

pub ahead_quiet : (r q : State) (t : ℕ) (x : JavaThread) (frames : List Frame) → slice_get r.threads t ≡ Some x
    → PutsNobody t (with_frames r t frames) q → PutsNobody t r q
ahead_quiet r q t x frames at (leaves_others others) = leaves_others (ahead_stays r q t x frames at others)
ahead_quiet r q t x frames at (tells u h) = tells u (ahead_tells r q t u x frames at h)
ahead_quiet r q t x frames at (keeps_monitor o step owned) = keeps_monitor o (ahead_monitor r q t o x frames at step) owned
ahead_quiet r q t x frames at (notifies o h) = notifies o (ahead_notifies r q t o x frames at h)

-- a hand is ahead
pub hand_ahead : (p : Setting) (v : Scheduled State) (c t n : ℕ) (frames : List Frame) → HasHand p v c t n frames → IsAhead p.world v.state t n frames
hand_ahead p v c t n frames h = record { thread = h.thread; at = h.at; running = h.running; ahead = h.ahead }
