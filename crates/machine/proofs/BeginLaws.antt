-- A machine that begins.
use Rattle.std.proofs.Common.{◌≡◌, ◌≢◌, ◌⊎◌, inl, inr, eqb, cond, ◌<◌, ℕ, zero, suc, true, false, List, [], ◌∷◌, Option, None, Some, length, slice_get, refl, ap, sym, ◌∙◌, arith}
use Rattle.std.specs.Prelude.{replicate}
use Rattle.std.proofs.lemmas.Bool.Decides.{eqb_tells}
use Rattle.std.proofs.lemmas.List.{length-replicate}
use Rattle.vthread_state.specs.declared.phase.Phase.TheVariants.{Run}
use Rattle.vthread_state.specs.declared.thread.Status.TheVariants.{Live}
use Rattle.vthread_state.specs.Threads.{Threads}
use Rattle.thread_lists.specs.Lists.{Lists, count, push}
use Rattle.monitors.specs.Monitors.{Becomes, Monitor, Monitors, after_enter, free, monitor_of}
use Rattle.schedule_model.specs.Look.{is_entering, is_waiting}
use Rattle.schedule_model.specs.Woken.{once_if}
use Rattle.schedule_model.specs.Schedule.{opening_schedule}
use Rattle.schedule_model.specs.Run.{with_schedule}
use Rattle.ref_model.specs.declared.limits.Limits.{Limits}
use Rattle.ref_model.specs.Setting.{Setting}
use Rattle.ref_model.specs.State.{JavaThread, State}
use Rattle.ref_model.specs.Opening.{opening, opening_owners, opening_thread}
use Rattle.startup.specs.declared.begin.Opened.{Opened}
use Rattle.startup.specs.Openings.{opened_state}
use Rattle.thread_steps.specs.States.{memory_of}
use Rattle.schedule_soundness.proofs.Placed.{none_on}
use Rattle.program_state.specs.declared.state.ProgramState.{ProgramState}
use Rattle.wakes.specs.Flags.{Flags}
use Rattle.sleep_wheel.specs.declared.sleeper.Sleeper.{Sleeper}
use Rattle.sleep_wheel.specs.Sleepers.{sleeper_at, slot_at}
use Rattle.program_state.specs.Deadlines.{HoldsDeadlines, IsTimed, untimed, deadlines_of, key_at}
use Rattle.program_state.specs.Monitors.{HoldsMonitors, owner_in, spot_at}
use Rattle.program_state.specs.States.{IsKept, IsState, absent, waiting}
use Rattle.machine.specs.Begin.{AreFirst, main_row}
use Rattle.machine.specs.Insides.{IsConsistent, is_out}
use Rattle.machine.specs.Legal.{IsAccepted}
use Rattle.machine.proofs.PlaceLaws.{in_from, push_length}
use Rattle.machine.proofs.StateLaws.{others_out}

-- ---- monitors

-- main's monitor is entered once, and nobody was in a list
module _ (old new : Monitors) (nobody : (o : ℕ) → monitor_of old o ≡ free) (one : new.threads ≡ 1) where
  pub none_owned : ((o : ℕ) → monitor_of new o ≡ free) → AreFirst new None
  none_owned still = record {
    owners = λ o. ap owner_in (still o);
    waits = λ o. ap (λ (m : Monitor). m.wait_list) (still o);
    enters = λ o. ap (λ (m : Monitor). m.entry_list) (still o);
    threads = one;
  }

  pub main_owns : (monitor : ℕ) → Becomes old new monitor (after_enter 0 (monitor_of old monitor)) → AreFirst new (Some monitor)
  main_owns monitor b = record {
    owners = λ o. owner o (eqb_tells o monitor);
    waits = λ o. list (λ m. m.wait_list) o (eqb_tells o monitor) refl refl;
    enters = λ o. list (λ m. m.entry_list) o (eqb_tells o monitor) refl refl;
    threads = one;
  }
    where
      Told : ℕ → Type 0
      Told o = ((eqb o monitor ≡ true) × (o ≡ monitor)) ⊎ ((eqb o monitor ≡ false) × (o ≢ monitor))

      here : monitor_of new monitor ≡ after_enter 0 free
      here = b.changed ∙ ap (after_enter 0) (nobody monitor)

      owner : (o : ℕ) → Told o → owner_in (monitor_of new o) ≡ opening_owners (Some monitor) o
      owner o (inl me) =
          ap (λ n. owner_in (monitor_of new n)) me.1 ∙ ap owner_in here
          ∙ sym (ap (λ e. cond e (Some (record { thread = 0; count = 1 })) None) me.0)
      owner o (inr other) =
          ap owner_in (b.others o other.1 ∙ nobody o) ∙ sym (ap (λ e. cond e (Some (record { thread = 0; count = 1 })) None) other.0)

      list : (f : Monitor → List ℕ) (o : ℕ) → Told o → f (after_enter 0 free) ≡ [] → f free ≡ [] → f (monitor_of new o) ≡ []
      list f o (inl me) at off = ap (λ n. f (monitor_of new n)) me.1 ∙ ap f here ∙ at
      list f o (inr other) at off = ap f (b.others o other.1 ∙ nobody o) ∙ off

-- ---- the state

module _ (a : ProgramState) (limits : Limits) (o : Opened) (frozen : a.frozen.items ≡ Some o.mounted ∷ []) (number : o.mounted.thread ≡ 0) where
  -- nobody is in a list of a monitor
  abbrev first_threads : List JavaThread
  first_threads = opening_thread o.mounted.stack.frames ∷ []

  off_waits : (t n : ℕ) → is_waiting n (spot_at first_threads t) ≡ false
  off_waits zero n = refl
  off_waits (suc t) n = refl

  off_enters : (t n : ℕ) → is_entering n (spot_at first_threads t) ≡ false
  off_enters zero n = refl
  off_enters (suc t) n = refl

  first_monitors_hold : AreFirst a.monitors o.monitor → HoldsMonitors a.monitors first_threads (opening_owners o.monitor)
  first_monitors_hold m = record {
    owners_are = m.owners;
    waits = λ t n. ap (count t) (m.waits n) ∙ sym (ap once_if (off_waits t n));
    enters = λ t n. ap (count t) (m.enters n) ∙ sym (ap once_if (off_enters t n));
    places = m.threads;
  }

  -- nobody has a deadline
  first_timed : a.keys.items ≡ None ∷ [] → (t : ℕ)
      → IsTimed (sleeper_at a.wheel) t (deadlines_of 0 (opening_thread o.mounted.stack.frames ∷ []) t) (key_at a.keys.items t)
  first_timed keys zero = untimed refl (ap (λ ks. key_at ks 0) keys)
  first_timed keys (suc t) = untimed refl (ap (λ ks. key_at ks (suc t)) keys)

  first_wheel : a.keys.items ≡ None ∷ [] → a.wheel.slots ≡ []
      → HoldsDeadlines (sleeper_at a.wheel) (key_at a.keys.items) (deadlines_of 0 (opening_thread o.mounted.stack.frames ∷ []))
  first_wheel keys empty = record {
    each = first_timed keys;
    only = λ k s at. let no : ◌≡◌ {A = Option Sleeper} None (Some s) = sym (ap (λ ss. slot_at ss k) empty) ∙ at in absurd cc;
  }

  first_kept : (u : ℕ) → IsKept u false (slice_get (opening_thread o.mounted.stack.frames ∷ []) u) (slice_get a.frozen.items u)
  first_kept zero =
      waiting (opening_thread o.mounted.stack.frames) o.mounted refl refl (ap (λ fs. slice_get fs 0) frozen) refl number refl
  first_kept (suc u) = absent refl refl (ap (λ fs. slice_get fs (suc u)) frozen)

  pub first_is : a.memory.status ≡ Live Run → memory_of a.memory ≡ (opened_state limits o).memory → a.memory.main_threw ≡ false
      → a.threads ≡ record { threads = main_row ∷ []; limit = limits.threads } → a.wakes ≡ record { permits = false ∷ []; interrupts = false ∷ [] }
      → AreFirst a.monitors o.monitor → a.wheel.slots ≡ [] → a.keys.items ≡ None ∷ [] → a.time ≡ 0 → a.most_threads ≡ limits.threads → a.unnamed ≡ 0
      → IsState a (opened_state limits o) (λ t. false)
  first_is status memory main threads wakes monitors empty keys now most unnamed = record {
    status = status;
    memory = memory;
    main_threw = main;
    rows = ap (λ (x : Threads). x.threads) threads;
    most_threads = most;
    limit = ap (λ (x : Threads). x.limit) threads;
    permits = ap (λ (f : Flags). f.permits) wakes;
    interrupts = ap (λ (f : Flags). f.interrupts) wakes;
    unnamed = unnamed;
    monitors = first_monitors_hold monitors;
    now = now;
    places = ap (λ ks. length ks) keys;
    wheel = first_wheel keys empty;
    kept = first_kept;
  }

module _ (p : Setting) (n : ℕ) (first : State) (state : ProgramState) (deques : Lists) (mounted : List (Option ℕ)) where
  pub first_consistent : IsAccepted p → 0 < n → opening p ≡ Some first → length first.threads ≡ 1 → IsState state first (λ t. false)
      → (owned : Option ℕ) → AreFirst state.monitors owned → deques ≡ record { lists = push (replicate n []) 0 (0 ∷ []); threads = 1 } → mounted ≡ replicate n None
      → IsConsistent p n state deques mounted [] None
  first_consistent accepted some begins one is owned monitors lists nobody = record {
    accepted = accepted;
    some = some;
    first = first;
    begins = begins;
    after = with_schedule first (opening_schedule n);
    runs = refl;
    few = omega arith;
    cause = λ e there. absurd cc;
    parts = λ works. record {
      state = others_out state first (λ t. false) (is_out (opening_schedule n)) is (λ u. in_from (opening_schedule n) u (none_on u n));
      lists = record { waits = monitors.waits; enters = monitors.enters };
      deques = ap (λ (d : Lists). d.lists) lists;
      room = let most = ap (λ (d : Lists). d.threads) lists in omega arith;
      mounted = nobody;
      carriers = push_length (replicate n []) 0 (0 ∷ []) ∙ length-replicate n [];
    };
  }
