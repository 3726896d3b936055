-- An interrupt ends a wait on a monitor (JLS 17.2.3).
use Rattle.std.proofs.Common.{◌≡◌, ◌≢◌, ◌⊎◌, inl, inr, eqb, ℕ, Bool, true, false, Option, Some, None, refl, ap, sym, subst, ◌∙◌}
use Rattle.std.specs.Prelude.{◌||◌, map, slice_get, slice_set, if◌then◌else◌}
use Rattle.std.specs.Global.{Vec}
use Rattle.std.proofs.Math.ListN.{length-set}
use Rattle.std.proofs.lemmas.Bool.Decides.{eqb_tells}
use Rattle.wakes.specs.Flags.{Flags}
use Rattle.sleep_wheel.specs.declared.sleeper.Key.{Key}
use Rattle.sleep_wheel.specs.Sleepers.{Sleepers, sleeper_at}
use Rattle.vthread_state.specs.declared.phase.Phase.{Phase}
use Rattle.vthread_state.specs.declared.phase.Phase.TheVariants.{Run, Waiting, Reenter}
use Rattle.vthread_state.specs.declared.phase.Wake.TheVariants.{Interrupted}
use Rattle.vthread_state.specs.declared.thread.Status.TheVariants.{Live}
use Rattle.vthread_state.specs.declared.thread.Thread.{Thread}
use Rattle.vthread_state.specs.Threads.{Threads, thread_at}
use Rattle.monitors.specs.Monitors.{Monitors}
use Rattle.link_model.specs.World.{World}
use Rattle.ref_model.specs.Asking.{goes}
use Rattle.ref_model.specs.Ending.{is_live}
use Rattle.ref_model.specs.Looks.{deadline_in, spot_in as spot_of_phase}
use Rattle.ref_model.specs.Requesting.{thread_interrupted}
use Rattle.ref_model.specs.State.{JavaThread, State}
use Rattle.ref_model.specs.Waiting.{status_woken, thread_woken}
use Rattle.ref_model.specs.declared.request.ThreadRequest.TheVariants as requests
use Rattle.ref_model.proofs.StateLaws.{get_set}
use Rattle.schedule_model.specs.Look.{is_in_wait_list}
use Rattle.schedule_soundness.proofs.ThreadLists.{same_some, set_other}
use Rattle.program_state.specs.declared.reply.Reply.TheVariants as replies
use Rattle.program_state.specs.declared.state.ProgramState.{ProgramState}
use Rattle.program_state.specs.Deadlines.{HoldsDeadlines, deadlines_of, key_at, later_than, with_deadline}
use Rattle.program_state.specs.Monitors.{HasEndedWait, spot_in}
use Rattle.program_state.specs.Replies.{Answers}
use Rattle.program_state.specs.States.{IsState, is_started}
use Rattle.program_state.specs.Steps.{Wakes, lines_up}
use Rattle.program_state.specs.Timers.{IsTimerCleared}
use Rattle.program_state.specs.Waking.{LeavesWoken, woken_in}
use Rattle.program_state.proofs.FlagLaws.{interrupt_flags}
use Rattle.program_state.proofs.MonitorLaws.{holds_seated}
use Rattle.program_state.proofs.SeatLaws.{left_owner}
use Rattle.program_state.proofs.StateLaws.{kept_put, own_memory, row_back, rows_set, still_lies, thread_is, thread_put}
use Rattle.program_state.proofs.WakeLaws.{others_beside}

-- the thread after that
abbrev waiter_after : JavaThread → JavaThread
waiter_after x = record (thread_woken Interrupted x) { interrupted = true }

interrupted_is : (x : JavaThread) → is_live x.thread.status ≡ true → thread_interrupted x ≡ waiter_after x
interrupted_is x live = ap (λ b. if b then waiter_after x else x) live

-- its parts
waiter_state : (u : ℕ) (a : ProgramState) (flags : Flags) (m : Monitors) (table : Threads) (wheel : Sleepers) (keys : Vec (Option Key)) (o count : ℕ) (deadline : Option ℕ)
    (r : State) (out : ℕ → Bool) (x : JavaThread) → IsState a r out → slice_get r.threads u ≡ Some x → x.thread.status ≡ Live (Waiting o count deadline)
    → IsTimerCleared u a.wheel a.keys.items wheel keys.items → HasEndedWait Interrupted u a.monitors a.threads m table
    → flags ≡ record a.wakes { interrupts = slice_set a.wakes.interrupts u true }
    → IsState (record a { wakes = flags; monitors = m; threads = table; wheel = wheel; keys = keys }) (record r { threads = slice_set r.threads u (waiter_after x) }) out
waiter_state u a flags m table wheel keys o count deadline r out x is at status timer ended set =
    let y : JavaThread = waiter_after x in
    let new : ProgramState = record a { wakes = flags; monitors = m; threads = table; wheel = wheel; keys = keys } in
    let after : y.thread.status ≡ Live (Reenter o count Interrupted) = ap (status_woken Interrupted) status in
    let flag = interrupt_flags a flags r out u x true is at set in
    let rows : table.threads ≡ map (λ z. z.thread) (slice_set r.threads u y) =
    ap (λ (ts : Threads). ts.threads) ended.threads ∙ rows_set a.threads r u x y (λ thread. record thread { status = status_woken Interrupted thread.status }) is.rows at refl in
    subst (λ q. IsState new q out) (own_memory a r out (slice_set r.threads u y) is)
    (thread_put a new r out u x y is at
    (record {
      run = is.status;
      rows = rows;
      limit = ap (λ (ts : Threads). ts.limit) ended.threads;
      most_threads = refl;
      monitors = holds_seated m table (slice_set r.threads u y) r.owners ended.seated rows
          (λ p. left_owner u (spot_in a.threads u) a.monitors m ended.monitors p ∙ is.monitors.owners_are p);
      permits = flag.permits;
      interrupts = flag.interrupts;
      unnamed = refl;
      time = refl;
      places = timer.places;
      wheel = subst (λ s. HoldsDeadlines (sleeper_at wheel) (key_at keys.items) (with_deadline (deadlines_of r.now r.threads) u (later_than r.now (deadline_in s)))) (sym after)
          (timer.holds (deadlines_of r.now r.threads) is.wheel);
    })
    (kept_put a.frozen.items r out u x y at is.kept (still_lies u (out u) x y (slice_get a.frozen.items u)
    (ap is_started after ∙ sym (ap is_started status)) (ap is_live after ∙ sym (ap is_live status)) refl)))

-- what others see
waiter_wakes : (t u o count : ℕ) (deadline : Option ℕ) (r : State) (x : JavaThread) (woken : Option ℕ) → u ≢ t → slice_get r.threads u ≡ Some x
    → x.thread.status ≡ Live (Waiting o count deadline) → woken ≡ woken_in t u (Waiting o count deadline) → LeavesWoken t woken r (record r { threads = slice_set r.threads u (waiter_after x) })
waiter_wakes t u o count deadline r x woken ne at status told =
    subst (λ n. LeavesWoken t n r next) (sym (told ∙ by (eqb_tells u t))) wakes
  where
    next : State
    next = record r { threads = slice_set r.threads u (waiter_after x) }

    by : ((eqb u t ≡ true) × (u ≡ t)) ⊎ ((eqb u t ≡ false) × (u ≢ t)) → woken_in t u (Waiting o count deadline) ≡ Some u
    by (inl same) = absurd (ne same.1)
    by (inr other) = ap (λ b. if b || false then None else Some u) other.0

    wakes : Wakes t u r next
    wakes = record {
      other = ne;
      others = others_beside t u r (waiter_after x);
      woken = lines_up (record {
        old = x;
        new = waiter_after x;
        was = at;
        is = get_set r.threads u x (waiter_after x) at;
        monitor = o;
        count = count;
        deadline = deadline;
        waited = status;
        reenters = ap (status_woken Interrupted) status;
      });
      count = length-set r.threads u (waiter_after x);
    }

waiter_interrupted : (w : World) (t u : ℕ) (a : ProgramState) (flags : Flags) (m : Monitors) (table : Threads) (wheel : Sleepers) (keys : Vec (Option Key)) (row : Thread)
    (o count : ℕ) (deadline : Option ℕ) (woken : Option ℕ) → thread_at a.threads u ≡ Some row → row.status ≡ Live (Waiting o count deadline)
    → IsTimerCleared u a.wheel a.keys.items wheel keys.items → HasEndedWait Interrupted u a.monitors a.threads m table
    → flags ≡ record a.wakes { interrupts = slice_set a.wakes.interrupts u true } → woken ≡ woken_in t u (Waiting o count deadline)
    → Answers w (requests.Interrupts u) (LeavesWoken t woken) t a (record a { wakes = flags; monitors = m; threads = table; wheel = wheel; keys = keys }) replies.Goes
waiter_interrupted w t u a flags m table wheel keys row o count deadline woken there waits timer ended set told r out frames is at =
    let x = row_back a.threads r u row is.rows there in
    let status : x.0.thread.status ≡ Live (Waiting o count deadline) = ap (λ (z : Thread). z.status) x.2 ∙ waits in
    let ne : u ≢ t = differ x.0 x.1 status in
    record {
      state = record r { threads = slice_set r.threads u (waiter_after x.0) };
      same = λ k. ap (λ s. goes s t k)
          (thread_is r u thread_interrupted x.0 x.1 ∙ ap (λ y. record r { threads = slice_set r.threads u y }) (interrupted_is x.0 (ap is_live status)));
      is = waiter_state u a flags m table wheel keys o count deadline r out x.0 is x.1 status timer ended set;
      runs = record { thread = at.thread; at = set_other r.threads u t (waiter_after x.0) (λ e. ne (sym e)) ∙ at.at; status = at.status; has = at.has };
      others = waiter_wakes t u o count deadline r x.0 woken ne x.1 status told;
    }
  where
    differ : (x : JavaThread) → slice_get r.threads u ≡ Some x → x.thread.status ≡ Live (Waiting o count deadline) → u ≢ t
    differ x there status same =
        let own : at.thread ≡ x = same_some (slice_get r.threads t) at.thread x at.at (ap (slice_get r.threads) (sym same) ∙ there) in
        let no : Live Run ≡ Live (Waiting o count deadline) = sym at.status ∙ ap (λ (z : JavaThread). z.thread.status) own ∙ status in absurd cc

-- the answer to the request
pub interrupt_ends : (w : World) (t u : ℕ) (a : ProgramState) (flags : Flags) (m : Monitors) (table : Threads) (wheel : Sleepers) (keys : Vec (Option Key)) (row : Thread)
    (phase : Phase) (woken : Option ℕ) → thread_at a.threads u ≡ Some row → row.status ≡ Live phase → is_in_wait_list (spot_of_phase phase) ≡ true
    → IsTimerCleared u a.wheel a.keys.items wheel keys.items → HasEndedWait Interrupted u a.monitors a.threads m table
    → flags ≡ record a.wakes { interrupts = slice_set a.wakes.interrupts u true } → woken ≡ woken_in t u phase
    → Answers w (requests.Interrupts u) (LeavesWoken t woken) t a (record a { wakes = flags; monitors = m; threads = table; wheel = wheel; keys = keys }) replies.Goes
interrupt_ends w t u a flags m table wheel keys row (Waiting o count deadline) woken there waits e = waiter_interrupted w t u a flags m table wheel keys row o count deadline woken there waits
interrupt_ends w t u a flags m table wheel keys row phase woken there waits e = absurd cc
