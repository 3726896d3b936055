-- A machine whose time goes on.
use Rattle.std.proofs.Common.{◌≡◌, ◌<◌, ◌≤◌, ℕ, Bool, List, [], ◌∷◌, ◌++◌, Option, None, Some, length, refl, ap, sym, subst, ◌∙◌, arith}
use Rattle.std.specs.Prelude.{◌↔◌, Contains, IfSome, IsNone, filter}
use Rattle.history.specs.declared.entry.Entry.{Entry}
use Rattle.history.specs.declared.entry.What.TheVariants.{Clock}
use Rattle.thread_lists.specs.Lists.{Lists, count, push}
use Rattle.schedule_model.specs.Run.{Scheduled}
use Rattle.ref_model.specs.declared.ending.Ending.{Ending}
use Rattle.ref_model.specs.Setting.{Setting}
use Rattle.ref_model.specs.State.{State}
use Rattle.ref_model.specs.Ending.{ending}
use Rattle.program_state.specs.declared.state.ProgramState.{ProgramState}
use Rattle.program_state.specs.Deadlines.{IsLeast, deadlines_of}
use Rattle.program_state.specs.Monitors.{AreSeated}
use Rattle.program_state.proofs.MonitorLaws.{seated}
use Rattle.program_state.specs.States.{IsState}
use Rattle.program_state.specs.Times.{AreDue, DueMove, Passes}
use Rattle.schedule_soundness.specs.ClockLaws.{IsAwaited}
use Rattle.link_model.specs.World.{World}
use Rattle.ref_model.specs.Waiting.{latest}
use Rattle.monitor_soundness.specs.TickLaws.{NoWaitIsOver}
use Rattle.monitor_soundness.proofs.OpenWaits.{waits_are_open}
use Rattle.monitor_soundness.proofs.Times.{ticks_change_time}
use Rattle.machine.specs.Clocks.{Awaits, AwaitsNothing, IsBefore, IsEarliest, IsEarliestIn}
use Rattle.machine.specs.Insides.{AreParts, IsConsistent, is_out}
use Rattle.machine.specs.Legal.{GoesOn, Works}
use Rattle.machine.specs.Machines.{Given, Known}
use Rattle.machine.specs.Puts.{is_to_go}
use Rattle.machine.proofs.EntryLaws.{entry_of, given, goes_on, is_scheduled, parts_are, program_after, with_one_more}
use Rattle.machine.proofs.NextLaws.{known_of, there}
use Rattle.machine.proofs.StateLaws.{rows_length}
use Rattle.machine.proofs.TickLaws.{Before, Ticked, due_below, due_made, due_once, had_deadline, seen_deadline, then, tick_enters, tick_goes, tick_parts}

-- ---- deadlines

awaited_by : (p : Setting) (r : State) (d now : ℕ) → IsLeast (deadlines_of r.now r.threads) d → d ≤ now → IsAwaited p.world r now
awaited_by p r d now least reached = record { thread = least.thread; due = seen_deadline p r now least.thread d least.is reached }

not_awaited_by : (p : Setting) (r : State) (d now : ℕ) → IsLeast (deadlines_of r.now r.threads) d → now < d → IsAwaited p.world r now → ⊥
not_awaited_by p r d now least far a =
    let low = least.least a.thread a.due.deadline (had_deadline p r now a.thread a.due) in
    let reached = a.due.reached in
    omega arith

none_awaited : (p : Setting) (r : State) (now : ℕ) → ((t : ℕ) → deadlines_of r.now r.threads t ≡ None) → IsAwaited p.world r now → ⊥
none_awaited p r now none a =
    let no : None ≡ Some a.due.deadline = sym (none a.thread) ∙ had_deadline p r now a.thread a.due in
    absurd cc

-- ---- a machine by its parts

module _ (p : Setting) (n : ℕ) (state : ProgramState) (deques : Lists) (mounted : List (Option ℕ)) (h : List Entry) (told : Option Ending) (spare : ℕ) (x : IsConsistent p n state deques mounted h told) where
  abbrev known : Known
  known = known_of p n h spare told

  tell : (P : Scheduled State → Type 0) → P x.after → Given known P
  tell P is = given known x.first x.after P x.begins x.runs is

  module _ (works : Works known) where
    is_there : IsState state x.after.state (is_out x.after.schedule)
    is_there = (x.parts works).state

    pub awaits : (d now : ℕ) → ((r : State) (out : ℕ → Bool) → IsState state r out → IsLeast (deadlines_of r.now r.threads) d) → d ≤ now → Awaits known now
    awaits d now least reached =
        tell (λ v. IsAwaited p.world v.state now) (awaited_by p x.after.state d now (least x.after.state (is_out x.after.schedule) is_there) reached)

    pub awaits_later : (d now : ℕ) → ((r : State) (out : ℕ → Bool) → IsState state r out → IsLeast (deadlines_of r.now r.threads) d) → now < d → AwaitsNothing known now
    awaits_later d now least far =
        tell (λ v. IsAwaited p.world v.state now → ⊥) (not_awaited_by p x.after.state d now (least x.after.state (is_out x.after.schedule) is_there) far)

    pub awaits_none : (now : ℕ) → ((r : State) (out : ℕ → Bool) → IsState state r out → (t : ℕ) → deadlines_of r.now r.threads t ≡ None) → AwaitsNothing known now
    awaits_none now none =
        tell (λ v. IsAwaited p.world v.state now → ⊥) (none_awaited p x.after.state now (none x.after.state (is_out x.after.schedule) is_there))

    pub earliest_is : (o : Option ℕ) → ((r : State) (out : ℕ → Bool) → IsState state r out → IsNone o ↔ ((t : ℕ) → deadlines_of r.now r.threads t ≡ None))
        → ((r : State) (out : ℕ → Bool) → IsState state r out → IfSome o (IsLeast (deadlines_of r.now r.threads))) → IsEarliest known o
    earliest_is None none least = tell (λ v. IsEarliestIn v.state None) ((none x.after.state (is_out x.after.schedule) is_there).0 refl)
    earliest_is (Some d) none least = tell (λ v. IsEarliestIn v.state (Some d)) (least x.after.state (is_out x.after.schedule) is_there)

  module _ (c now : ℕ) (below : c < n) (going : GoesOn known) where
    parts : AreParts n state deques mounted x.after
    parts = parts_are p n state deques mounted h told x going.told

    goes : ending x.after.state ≡ None
    goes = going.going x.after (there p n state deques mounted h told spare x)

    before : Before p x.first x.after n state deques mounted c now
    before = record {
      after = program_after p n state deques mounted h told x;
      parts = parts;
      going = goes;
      carrier =
          let sizes = (is_scheduled p x.first x.after (program_after p n state deques mounted h told x)).sizes in
          let count = parts.carriers in
          omega arith;
    }

    pub time_later : IsBefore known now → state.time < now
    time_later later =
        subst (λ i. i < now) (sym parts.state.now) (later x.after (there p n state deques mounted h told spare x))

    pub seated_there : AreSeated state.monitors state.threads
    seated_there = seated state x.after.state (is_out x.after.schedule) parts.state

    pub carrier_below : c < length deques.lists
    carrier_below =
        let same = ap (λ ls. length ls) parts.deques in
        let count = parts.carriers in
        omega arith

    -- no wait on a monitor is over, while there is a later time
    to_come_there : now ≤ latest → IsBefore known now → NoWaitIsOver x.after.state
    to_come_there few later =
        let before_now = later x.after (there p n state deques mounted h told spare x) in
        waits_are_open p x.first x.after (program_after p n state deques mounted h told x) (omega arith)

    module _ (few : now ≤ latest) (later : IsBefore known now) (new : ProgramState) (due : List ℕ)
        (passes : (r : State) (out : ℕ → Bool) → IsState state r out → NoWaitIsOver r → Passes now new r out)
        (are_due : (r : State) (out : ℕ → Bool) → IsState state r out → AreDue r now due)
        (move : (w : World) (r : State) (out : ℕ → Bool) → IsState state r out → DueMove w r due state.monitors new.monitors) where
      out : ℕ → Bool
      out = is_out x.after.schedule

      to_come : NoWaitIsOver x.after.state
      to_come = to_come_there few later

      passed : Passes now new x.after.state (is_out x.after.schedule)
      passed = passes x.after.state (is_out x.after.schedule) parts.state to_come

      due_is : AreDue x.after.state now due
      due_is = are_due x.after.state (is_out x.after.schedule) parts.state

      pub once : (u : ℕ) → count u due ≤ 1
      once = due_once p x.after.state now due due_is

      pub in_room : (u : ℕ) → Contains due u → u < deques.threads
      in_room = due_below p x.first x.after n state deques mounted c now before due due_is

      pub in_table : (u : ℕ) → Contains due u → u < length new.threads.threads
      in_table u here =
          let made = due_made p x.after.state now due due_is u here in
          let many = (ticks_change_time x.after.state passed.next now passed.ticks).as_many in
          let rows = rows_length new passed.next (is_out x.after.schedule) passed.is in
          omega arith

      module _ (left : Lists)
          (lists : (r : State) (out : ℕ → Bool) → IsState new r out → left.lists ≡ push deques.lists c (filter (is_to_go new r deques.lists) due))
          (room : left.threads ≡ deques.threads) where
        ticked : Ticked p x.after state new deques left c now due
        ticked = record {
          to_come = to_come;
          passes = passed;
          moves = move p.world x.after.state (is_out x.after.schedule) parts.state;
          due_are = due_is;
          lists = lists passed.next (is_out x.after.schedule) passed.is;
          room = room;
        }

        abbrev clock_then : Scheduled State
        clock_then = then p x.first x.after n state deques mounted c now before new left due ticked

        pub clock_kept : length h < p.limits.events → IsConsistent p n new left mounted (h ++ entry_of c (Clock now) ∷ []) told
        clock_kept few_entries =
            subst (λ e. IsConsistent p n new left mounted (h ++ entry_of c (Clock now) ∷ []) e) (sym going.told)
            (with_one_more p n state new deques left mounted mounted h told x c (Clock now) (then p x.first x.after n state deques mounted c now before new left due ticked)
            (tick_enters p x.first x.after n state deques mounted c now before new left due ticked) few_entries
            (tick_parts p x.first x.after n state deques mounted c now before new left due ticked))

        pub clock_goes : (room : ℕ) → GoesOn (known_of p n (h ++ entry_of c (Clock now) ∷ []) room told)
        clock_goes room = record {
          told = going.told;
          going =
              given (known_of p n (h ++ entry_of c (Clock now) ∷ []) room told) x.first (then p x.first x.after n state deques mounted c now before new left due ticked) (λ v. ending v.state ≡ None) x.begins
              (goes_on p n state deques mounted h told x c (Clock now) (then p x.first x.after n state deques mounted c now before new left due ticked)
              (tick_enters p x.first x.after n state deques mounted c now before new left due ticked))
              (tick_goes p x.first x.after n state deques mounted c now before new left due ticked);
        }
