-- A state by its parts, where the owner of a monitor changed, and one thread with it.
use Rattle.std.proofs.Common.{◌≡◌, ℕ, Bool, true, Option, Some, length, refl, ap, sym, ◌∙◌}
use Rattle.std.specs.Prelude.{slice_get, slice_set}
use Rattle.std.specs.Global.{Vec}
use Rattle.std.proofs.Math.ListN.{length-set}
use Rattle.sleep_wheel.specs.declared.sleeper.Key.{Key}
use Rattle.sleep_wheel.specs.Sleepers.{Sleepers, sleeper_at}
use Rattle.vthread_state.specs.declared.thread.Status.{Status}
use Rattle.vthread_state.specs.Threads.{Threads, with_status}
use Rattle.monitors.specs.Monitors.{Monitors}
use Rattle.ref_model.specs.Looks.{deadline_in}
use Rattle.ref_model.specs.State.{JavaThread, Owner, State}
use Rattle.program_state.specs.declared.state.ProgramState.{ProgramState}
use Rattle.program_state.specs.Deadlines.{HoldsDeadlines, deadlines_of, key_at, later_than, with_deadline}
use Rattle.program_state.specs.Monitors.{HoldsMonitors}
use Rattle.program_state.specs.States.{IsKept, IsState, is_started}
use Rattle.program_state.proofs.StateLaws.{deadlines_put, interrupt_of, interrupts_same, kept_put, map_set, permit_of, permits_same, rows_set, still_out, wheel_same}
use Rattle.program_state.proofs.WheelLaws.{holds_same}

-- Monitors have other owners, and all else stays.
pub owners_put : (a : ProgramState) (m : Monitors) (owners : ℕ → Option Owner) (r : State) (out : ℕ → Bool) → IsState a r out → HoldsMonitors m r.threads owners
    → IsState (record a { monitors = m }) (record r { owners = owners }) out
owners_put a m owners r out is holds =
    record {
      status = is.status;
      memory = is.memory;
      main_threw = is.main_threw;
      rows = is.rows;
      most_threads = is.most_threads;
      limit = is.limit;
      permits = is.permits;
      interrupts = is.interrupts;
      unnamed = is.unnamed;
      monitors = holds;
      now = is.now;
      places = is.places;
      wheel = is.wheel;
      kept = is.kept;
    }

-- a thread with another status
abbrev pub with_status_as : Status → JavaThread → JavaThread
with_status_as status x = record x { thread = record x.thread { status = status } }

-- A thread has another status, with another deadline or none, and monitors have other owners and lists.
pub thread_moved : (a : ProgramState) (m : Monitors) (table : Threads) (wheel : Sleepers) (keys : Vec (Option Key)) (owners : ℕ → Option Owner) (r : State) (out : ℕ → Bool) (t : ℕ) (x : JavaThread)
    (status : Status) → IsState a r out → slice_get r.threads t ≡ Some x → table ≡ with_status a.threads t status
    → HoldsMonitors m (slice_set r.threads t (with_status_as status x)) owners → length keys.items ≡ length a.keys.items
    → HoldsDeadlines (sleeper_at wheel) (key_at keys.items) (with_deadline (deadlines_of r.now r.threads) t (later_than r.now (deadline_in status)))
    → (IsKept t (out t) (Some x) (slice_get a.frozen.items t) → IsKept t (out t) (Some (with_status_as status x)) (slice_get a.frozen.items t))
    → IsState (record a { monitors = m; threads = table; wheel = wheel; keys = keys }) (record r { threads = slice_set r.threads t (with_status_as status x); owners = owners }) out
thread_moved a m table wheel keys owners r out t x status is at set holds places timed keeps =
    let y : JavaThread = with_status_as status x in
    record {
      status = is.status;
      memory = is.memory;
      main_threw = is.main_threw;
      rows = ap (λ (ts : Threads). ts.threads) set ∙ rows_set a.threads r t x y (λ thread. record thread { status = status }) is.rows at refl;
      most_threads = is.most_threads;
      limit = ap (λ (ts : Threads). ts.limit) set ∙ is.limit;
      permits = permits_same a r out t x x.permit is at refl ∙ ap (λ fs. slice_set fs t x.permit) is.permits ∙ sym (map_set permit_of r.threads t y);
      interrupts = interrupts_same a r out t x x.interrupted is at refl ∙ ap (λ fs. slice_set fs t x.interrupted) is.interrupts ∙ sym (map_set interrupt_of r.threads t y);
      unnamed = is.unnamed;
      monitors = holds;
      now = is.now;
      places = places ∙ is.places ∙ sym (length-set r.threads t y);
      wheel = holds_same (sleeper_at wheel) (sleeper_at wheel) (key_at keys.items) (key_at keys.items) (with_deadline (deadlines_of r.now r.threads) t (later_than r.now (deadline_in status)))
          (deadlines_of r.now (slice_set r.threads t y)) (λ k. refl) (λ u. refl) (λ u. deadlines_put r.now r.threads t u x y at) timed;
      kept = kept_put a.frozen.items r out t x y at is.kept keeps;
    }

-- The same of a thread that is out, and has the old deadline.
pub out_moved : (a : ProgramState) (m : Monitors) (table : Threads) (owners : ℕ → Option Owner) (r : State) (out : ℕ → Bool) (t : ℕ) (x : JavaThread)
    (status : Status) → IsState a r out → slice_get r.threads t ≡ Some x → out t ≡ true → table ≡ with_status a.threads t status → is_started status ≡ true
    → deadline_in status ≡ deadline_in x.thread.status → HoldsMonitors m (slice_set r.threads t (with_status_as status x)) owners
    → IsState (record a { monitors = m; threads = table }) (record r { threads = slice_set r.threads t (with_status_as status x); owners = owners }) out
out_moved a m table owners r out t x status is at here set started timed holds =
    let y : JavaThread = with_status_as status x in
    thread_moved a m table a.wheel a.keys owners r out t x status is at set holds refl (wheel_same a r out t x y is at timed)
    (still_out t (out t) x y (slice_get a.frozen.items t) here started)
