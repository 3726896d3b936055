-- What is answered to wait.
use Rattle.std.proofs.Common.{◌≡◌, ℕ, ℤ, Bool, true, false, List, Option, Some, None, refl, ap, sym, subst, ◌∙◌}
use Rattle.std.specs.Prelude.{if◌then◌else◌, is_none, slice_get, slice_set}
use Rattle.std.specs.Global.{Vec}
use Rattle.wakes.specs.Flags.{Flags}
use Rattle.sleep_wheel.specs.declared.sleeper.Key.{Key}
use Rattle.sleep_wheel.specs.Sleepers.{Sleepers, sleeper_at}
use Rattle.vthread_state.specs.declared.phase.Phase.{Phase}
use Rattle.vthread_state.specs.declared.phase.Phase.TheVariants.{Run, Waiting}
use Rattle.vthread_state.specs.declared.thread.Status.{Status}
use Rattle.vthread_state.specs.declared.thread.Status.TheVariants.{Live}
use Rattle.vthread_state.specs.Threads.{Threads, with_status as with_status_at}
use Rattle.link_model.specs.World.{World}
use Rattle.state_model.specs.Frames.{Frame}
use Rattle.schedule_model.specs.Look.{is_entering, is_waiting}
use Rattle.schedule_model.specs.Woken.{once_if}
use Rattle.monitors.specs.Monitors.{Becomes, Monitor, Monitors, after_wait, monitor_of}
use Rattle.ref_model.specs.declared.exception.Exception.{Exception}
use Rattle.ref_model.specs.declared.exception.Exception.TheVariants as exceptions
use Rattle.ref_model.specs.Asking.{Asking, thrown_interrupted}
use Rattle.ref_model.specs.Looks.{deadline_in, spot_of}
use Rattle.ref_model.specs.Monitors.{is_owner, owns, times_entered}
use Rattle.ref_model.specs.Requesting.{asked, unless_interrupted, unless_unowned, wait_begun}
use Rattle.ref_model.specs.Requests.{Request, waits_on}
use Rattle.ref_model.specs.State.{JavaThread, Owner, State, is_interrupted, with_owner, with_status}
use Rattle.ref_model.specs.Throwing.{raised}
use Rattle.ref_model.specs.Waiting.{deadline_of, is_negative}
use Rattle.ref_model.proofs.StateLaws.{get_set}
use Rattle.schedule_soundness.proofs.ThreadLists.{set_other}
use Rattle.program_state.specs.declared.state.ProgramState.{ProgramState}
use Rattle.program_state.specs.Deadlines.{HoldsDeadlines, coming_deadline, deadlines_of, key_at, later_than, with_deadline}
use Rattle.program_state.specs.Monitors.{ListsMove, stay, waits}
use Rattle.program_state.specs.States.{IsInPhase, IsState}
use Rattle.program_state.specs.Timers.{IsTimerSet}
use Rattle.program_state.specs.Waking.{IsInterruptTaken}
use Rattle.program_state.proofs.FlagLaws.{flags_put, interrupt_flags, interrupt_had, no_interrupt_taken}
use Rattle.program_state.proofs.StateLaws.{others_same, still_out, thread_is}
use Rattle.monitor_steps.specs.declared.outcome.MonitorOutcome.TheVariants as outcomes
use Rattle.monitor_steps.specs.declared.reply.MonitorReply.TheVariants as replies
use Rattle.monitor_steps.specs.Owners.{owns_in}
use Rattle.monitor_steps.specs.Replies.{AnswersSo}
use Rattle.monitor_steps.specs.Waits.{IsRefusal, MayWait, WaitsIn, WaitsTo}
use Rattle.monitor_steps.proofs.AnswerLaws.{same_phase, status_frames, status_others}
use Rattle.monitor_steps.proofs.EntryLaws.{spot_had}
use Rattle.monitor_steps.proofs.ExitLaws.{monitor_step, not_owned, owner_is, owner_now, owner_with, same_all}
use Rattle.program_state.proofs.SeatLaws.{eqb_other, eqb_same}
use Rattle.monitor_steps.proofs.MonitorMoves.{Moves, count_last, count_more, holds_moved, owner_at, owner_elsewhere}
use Rattle.monitor_steps.proofs.StateMoves.{thread_moved, with_status_as}

-- ---- why it isn't done

-- nothing has changed, and the thread throws
pub throws_same : (request : Request) (t o : ℕ) (a : ProgramState) (e : Exception) → ((w : World) (r : State) (out : ℕ → Bool) (k : Asking) → IsState a r out → asked w r t k request ≡ raised w r t e)
    → AnswersSo request t a a (replies.Throws e)
throws_same request t o a e each =
    record {
      monitor = o;
      answers = record {
        first = tt;
        is = λ w r out frames is here at.
            record {
              state = r;
              same = λ k. each w r out k is;
              is = is;
              runs = at;
              others = others_same t r r (λ u ne. refl) refl refl;
            };
      };
      lists = stay (same_all a.monitors);
    }

wait_so : (w : World) (r : State) (t o : ℕ) (k : Asking) (time : Option ℤ) (negative : Bool) → is_negative time ≡ negative
    → asked w r t k (waits_on o time) ≡ (if negative then raised w r t exceptions.IllegalArgumentException else unless_unowned w r t o (unless_interrupted w r t (wait_begun r t o time)))
wait_so w r t o k time negative e =
    ap (λ b. if b then raised w r t exceptions.IllegalArgumentException else unless_unowned w r t o (unless_interrupted w r t (wait_begun r t o time))) e

wait_owned : (w : World) (r : State) (t o : ℕ) (k : Asking) (time : Option ℤ) (owned : Bool) → is_negative time ≡ false → owns r t o ≡ owned
    → asked w r t k (waits_on o time) ≡ (if owned then unless_interrupted w r t (wait_begun r t o time) else raised w r t exceptions.IllegalMonitorStateException)
wait_owned w r t o k time owned positive e =
    wait_so w r t o k time false positive
    ∙ ap (λ b. if b then unless_interrupted w r t (wait_begun r t o time) else raised w r t exceptions.IllegalMonitorStateException) e

wait_calm : (w : World) (r : State) (t o : ℕ) (k : Asking) (time : Option ℤ) (had : Bool) → is_negative time ≡ false → owns r t o ≡ true → is_interrupted r t ≡ had
    → asked w r t k (waits_on o time) ≡ (if had then thrown_interrupted w r t else wait_begun r t o time)
wait_calm w r t o k time had positive owned e =
    wait_owned w r t o k time true positive owned ∙ ap (λ b. if b then thrown_interrupted w r t else wait_begun r t o time) e

pub wait_negative : (t o : ℕ) (time : Option ℤ) (a : ProgramState) → is_negative time ≡ true → IsRefusal t o time a a (Some exceptions.IllegalArgumentException)
wait_negative t o time a negative = throws_same (waits_on o time) t o a exceptions.IllegalArgumentException (λ w r out k is. wait_so w r t o k time true negative)

pub wait_unowned : (t o : ℕ) (time : Option ℤ) (a : ProgramState) → is_negative time ≡ false → owns_in a.monitors t o ≡ false → IsRefusal t o time a a (Some exceptions.IllegalMonitorStateException)
wait_unowned t o time a positive owned =
    throws_same (waits_on o time) t o a exceptions.IllegalMonitorStateException (λ w r out k is. wait_owned w r t o k time false positive (not_owned a t o false r out is owned))

pub wait_interrupted : (t o : ℕ) (time : Option ℤ) (a : ProgramState) (flags : Flags) → is_negative time ≡ false → owns_in a.monitors t o ≡ true → IsInterruptTaken t true a.wakes flags
    → IsRefusal t o time a (record a { wakes = flags }) (Some exceptions.InterruptedException)
wait_interrupted t o time a flags positive owned taken =
    record {
      monitor = o;
      answers = record {
        first = tt;
        is = λ w r out frames is here at.
            let x : JavaThread = at.thread in
            let z : JavaThread = record x { interrupted = false } in
            let next : State = record r { threads = slice_set r.threads t z } in
            let f = interrupt_flags a flags r out t x false is at.at taken.after in
            record {
              state = next;
              same = λ k. wait_calm w r t o k time true positive (not_owned a t o true r out is owned) (interrupt_had a r out t true flags is taken)
                  ∙ ap (λ s. raised w s t exceptions.InterruptedException) (thread_is r t (λ y. record y { interrupted = false }) x at.at);
              is = flags_put a flags r out t x z is at.at refl refl f.permits f.interrupts;
              runs = record { thread = z; at = get_set r.threads t x z at.at; status = at.status; has = at.has };
              others = others_same t r next (λ u ne. set_other r.threads t u z ne) refl refl;
            };
      };
      lists = stay (same_all a.monitors);
    }

pub wait_may : (t o : ℕ) (time : Option ℤ) (a : ProgramState) (flags : Flags) → is_negative time ≡ false → owns_in a.monitors t o ≡ true → IsInterruptTaken t false a.wakes flags
    → IsRefusal t o time a (record a { wakes = flags }) None
wait_may t o time a flags positive owned taken =
    record {
      same = ap (λ (fs : Flags). record a { wakes = fs }) (no_interrupt_taken t a.wakes flags taken);
      begins = λ w r out k is. wait_calm w r t o k time false positive (not_owned a t o true r out is owned) (interrupt_had a r out t false flags is taken);
    }

-- ---- it waits

wait_moves : (a : ProgramState) (t o n : ℕ) (deadline : Option ℕ) (r : State) (out : ℕ → Bool) (x : JavaThread) → IsState a r out → slice_get r.threads t ≡ Some x → x.thread.status ≡ Live Run
    → Moves a.monitors t o x (with_status_as (Live (Waiting o n deadline)) x) (after_wait t (monitor_of a.monitors o))
wait_moves a t o n deadline r out x is at runs =
    let spot = spot_had r t x (Live Run) at runs in
    record {
      waits = count_last t (monitor_of a.monitors o).wait_list (is.monitors.waits t o ∙ ap (λ s. once_if (is_waiting o s)) spot) ∙ ap once_if (sym (eqb_same o));
      enters = is.monitors.enters t o ∙ ap (λ s. once_if (is_entering o s)) spot;
      others_wait = λ u ne. count_more u t (monitor_of a.monitors o).wait_list ne;
      others_enter = λ u ne. refl;
      waits_elsewhere = λ p ne. eqb_other o p (λ e. ne (sym e)) ∙ ap (λ s. is_waiting p (spot_of s)) (sym runs);
      enters_elsewhere = λ p ne. ap (λ s. is_entering p (spot_of s)) (sym runs);
    }

times_is : (a : ProgramState) (t o : ℕ) (r : State) (out : ℕ → Bool) → IsState a r out → (monitor_of a.monitors o).owner ≡ Some t → r.owners o ≡ Some (owner_with t (monitor_of a.monitors o).count)
times_is a t o r out is owner = sym (is.monitors.owners_are o) ∙ owner_is t (monitor_of a.monitors o) owner

pub waits_begun : (a : ProgramState) (m : Monitors) (table : Threads) (wheel : Sleepers) (keys : Vec (Option Key)) (t o n : ℕ) (deadline first : Option ℕ) → (monitor_of a.monitors o).owner ≡ Some t
    → n ≡ (monitor_of a.monitors o).count → first ≡ slice_get (monitor_of a.monitors o).entry_list 0 → Becomes a.monitors m o (after_wait t (monitor_of a.monitors o))
    → IsTimerSet t (later_than a.time deadline) a.wheel a.keys.items wheel keys.items → table ≡ with_status_at a.threads t (Live (Waiting o n deadline))
    → WaitsTo t o deadline a (record a { monitors = m; threads = table; wheel = wheel; keys = keys }) first
waits_begun a m table wheel keys t o n deadline first owner times line becomes timer set =
    record {
      waits = λ r out frames is here at. in_state r out frames is here at;
      first_is = line ∙ ap (λ (k : Monitor). slice_get k.entry_list 0) (sym becomes.changed);
      lists = waits t o becomes;
    }
  where
    old : Monitor
    old = monitor_of a.monitors o

    new : ProgramState
    new = record a { monitors = m; threads = table; wheel = wheel; keys = keys }

    in_state : (r : State) (out : ℕ → Bool) (frames : List Frame) → IsState a r out → out t ≡ true → IsInPhase r t Run frames → WaitsIn t o deadline r out new
    in_state r out frames is here at =
        let x : JavaThread = at.thread in
        let status : Status = Live (Waiting o n deadline) in
        let y : JavaThread = with_status_as status x in
        let left : State = with_owner r o None in
        let had = times_is a t o r out is owner in
        let none : deadlines_of r.now r.threads t ≡ None = ap (coming_deadline r.now) at.at ∙ ap (λ s. later_than r.now (deadline_in s)) at.status in
        let put : IsState new (record left { threads = slice_set r.threads t y }) out =
        thread_moved a m table wheel keys left.owners r out t x status is at.at set
        (holds_moved a.monitors m r.threads r.owners left.owners t o x y (after_wait t old) is.monitors at.at becomes (sym (owner_at r.owners o None))
        (λ p ne. owner_elsewhere r.owners p o None ne) (wait_moves a t o n deadline r out x is at.at at.status))
        timer.places
        (subst (λ now. HoldsDeadlines (sleeper_at wheel) (key_at keys.items) (with_deadline (deadlines_of r.now r.threads) t (later_than now deadline))) is.now
        (timer.holds (deadlines_of r.now r.threads) is.wheel none))
        (still_out t (out t) x y (slice_get a.frozen.items t) here refl) in
        record {
          owned = ap (is_owner t) had ∙ eqb_same t;
          is = subst (λ k. IsState new (with_status left t (Live (Waiting o k deadline))) out) (times ∙ ap times_entered (sym had))
              (subst (λ q. IsState new q out) (sym (thread_is left t (with_status_as status) x at.at)) put);
        }

owned_some : (t : ℕ) (owner : Option Owner) → is_owner t owner ≡ true → is_none owner ≡ false
owned_some t None e = absurd cc
owned_some t (Some owner) e = refl

pub owned_not_free : (r : State) (t o : ℕ) → owns r t o ≡ true → is_none (r.owners o) ≡ false
owned_not_free r t o e = owned_some t (r.owners o) e

pub wait_answered : (t o : ℕ) (time : Option ℤ) (old mid new : ProgramState) (deadline first : Option ℕ) → MayWait t o time old mid → deadline ≡ deadline_of mid.time time
    → WaitsTo t o deadline mid new first → AnswersSo (waits_on o time) t old new (replies.Waits (outcomes.Frees first))
wait_answered t o time old mid new deadline first may until begun =
    record {
      monitor = o;
      answers = record {
        first = begun.first_is;
        is = λ w r out frames is here at.
            let n : ℕ = times_entered (r.owners o) in
            let left : State = with_owner r o None in
            let phase : Phase = Waiting o n deadline in
            let waiting = begun.waits r out frames (subst (λ (s : ProgramState). IsState s r out) (sym may.same) is) here at in
            let own = same_phase r left t Run frames refl at in
            let stays = status_others left t phase frames Run own in
            record {
              state = with_status left t (Live phase);
              same = λ a. may.begins w r out a is
                  ∙ ap (λ d. Some (with_status left t (Live (Waiting o n d)))) (ap (λ now. deadline_of now time) (sym is.now ∙ ap (λ (s : ProgramState). s.time) (sym may.same)) ∙ sym until);
              is = waiting.is;
              has = status_frames left t phase frames Run own;
              others = record {
                step = monitor_step t o None r left (with_status left t (Live phase)) refl refl refl stays;
                loses = record {
                  was = owned_not_free r t o waiting.owned;
                  is = ap is_none (owner_now o None r left (with_status left t (Live phase)) t refl stays);
                };
              };
            };
      };
      lists = subst (λ (s : ProgramState). ListsMove s.monitors new.monitors) may.same begun.lists;
    }
