-- A machine whose carrier puts down a thread.
use Rattle.std.proofs.Common.{◌≡◌, ◌<◌, ℕ, Bool, true, false, List, [], ◌∷◌, ◌++◌, Option, None, Some, length, slice_get, refl, ap, sym, subst, arith, cond}
use Rattle.std.specs.Prelude.{◌↔◌, is_some, slice_set}
use Rattle.std.proofs.lemmas.Option.{slice_get_within}
use Rattle.history.specs.declared.entry.Entry.{Entry}
use Rattle.history.specs.declared.entry.What.TheVariants.{Unmount}
use Rattle.vthread_state.specs.declared.phase.Phase.{Phase}
use Rattle.vthread_state.specs.Threads.{phase_at}
use Rattle.continuation.specs.Continuation.{Continuation}
use Rattle.thread_lists.specs.Lists.{Lists, count, push, total}
use Rattle.schedule_model.specs.Entries.{is_idle}
use Rattle.ref_model.specs.declared.ending.Ending.{Ending}
use Rattle.ref_model.specs.Setting.{Setting}
use Rattle.ref_model.specs.State.{State}
use Rattle.ref_model.specs.Step.{enabled}
use Rattle.program_state.specs.declared.state.ProgramState.{ProgramState}
use Rattle.program_state.specs.States.{IsState}
use Rattle.machine.specs.Hands.{HasEnded, HasHand, Holds, Idle, IsLive, MayUnmount}
use Rattle.machine.specs.Insides.{AreParts, IsConsistent, is_out}
use Rattle.machine.proofs.EntryLaws.{entry_of, given, goes_on, parts_are, program_after, with_one_more}
use Rattle.machine.proofs.NextLaws.{known_of, there}
use Rattle.machine.proofs.StateLaws.{Over, SameBut, below_count, gone, out_live, out_over}
use Rattle.machine.proofs.UnmountLaws.{Before, in_no_deque, out, retired_parts, settled_parts, then, then_idle, unmount_enters, within, within_deques}

both_ways : (b : Bool) → b ≡ true → b ≡ false → ⊥
both_ways b i j = absurd cc

module _ (p : Setting) (n : ℕ) (state : ProgramState) (deques : Lists) (mounted : List (Option ℕ)) (h : List Entry) (told : Option Ending) (spare : ℕ) (x : IsConsistent p n state deques mounted h told) where
  module _ (c t : ℕ) (none : told ≡ None) (may : MayUnmount (known_of p n h spare told) c t) where
    pub before : Before p x.first x.after n state deques mounted c t
    before = record {
      after = program_after p n state deques mounted h told x;
      parts = parts_are p n state deques mounted h told x none;
      may = may x.after (there p n state deques mounted h told spare x);
    }

    pub carrier_inside : c < length mounted
    carrier_inside = within p x.first x.after n state deques mounted c t before

    pub deque_inside : c < length deques.lists
    deque_inside = within_deques p x.first x.after n state deques mounted c t before

    pub loose : total (count t) deques.lists ≡ 0
    loose = in_no_deque p x.first x.after n state deques mounted c t before

    is_mounted : is_out x.after.schedule t ≡ true
    is_mounted = out p x.first x.after n state deques mounted c t before

    pub frozen_inside : t < length state.frozen.items
    frozen_inside =
        let a = parts_are p n state deques mounted h told x none in
        slice_get_within state.frozen.items t None
        (gone t (is_out x.after.schedule t) (slice_get x.after.state.threads t) (slice_get state.frozen.items t) (a.state.kept t) is_mounted)

    pub unmount_idle : (room : ℕ) → Idle (known_of p n (h ++ entry_of c (Unmount t) ∷ []) room told) c
    unmount_idle room =
        let w = then p x.first x.after n state deques mounted c t before in
        given (known_of p n (h ++ entry_of c (Unmount t) ∷ []) room told) x.first w (λ v. is_idle v.schedule c ≡ true) x.begins
        (goes_on p n state deques mounted h told x c (Unmount t) w (unmount_enters p x.first x.after n state deques mounted c t before))
        (then_idle p x.first x.after n state deques mounted c t before)

    unmount_kept : (new : ProgramState) (left : Lists) (on : List (Option ℕ)) → length h < p.limits.events
        → AreParts n new left on (then p x.first x.after n state deques mounted c t before)
        → IsConsistent p n new left on (h ++ entry_of c (Unmount t) ∷ []) told
    unmount_kept new left on few parts =
        subst (λ e. IsConsistent p n new left on (h ++ entry_of c (Unmount t) ∷ []) e) (sym none)
        (with_one_more p n state new deques left mounted on h told x c (Unmount t) (then p x.first x.after n state deques mounted c t before)
        (unmount_enters p x.first x.after n state deques mounted c t before) few parts)

    pub retire_kept : (on : List (Option ℕ)) → length h < p.limits.events → HasEnded (known_of p n h spare told) t → on ≡ slice_set mounted c None
        → IsConsistent p n state deques on (h ++ entry_of c (Unmount t) ∷ []) told
    retire_kept on few ended puts =
        unmount_kept state deques on few
        (retired_parts p x.first x.after n state deques mounted c t before on (ended x.after (there p n state deques mounted h told spare x)) puts)

    -- ---- with its frames

    module _ (k : Continuation) (number : k.thread ≡ t) (hand : Holds (known_of p n h spare told) c t 0 k.stack.frames) where
      the_hand : HasHand p x.after c t 0 k.stack.frames
      the_hand = hand x.after (there p n state deques mounted h told spare x)

      pub in_table : t < length state.threads.threads
      in_table =
          let a = parts_are p n state deques mounted h told x none in
          below_count state x.after.state (is_out x.after.schedule) t the_hand.thread a.state the_hand.at

      pub in_room : t < deques.threads
      in_room =
          let a = parts_are p n state deques mounted h told x none in
          let inside = slice_get_within x.after.state.threads t the_hand.thread the_hand.at in
          let room = a.room in
          omega arith

      live_by : (alive : Bool) → ((alive ≡ true) ↔ (is_some (phase_at state.threads t) ≡ true)) → alive ≡ true → IsLive x.after.state t
      live_by alive tells yes_it_is = by (phase_at state.threads t) refl
        where
          by : (o : Option Phase) → phase_at state.threads t ≡ o → IsLive x.after.state t
          by None e = absurd (both_ways (is_some (phase_at state.threads t)) (tells.0 yes_it_is) (ap is_some e))
          by (Some phase) e =
              out_live state x.after.state (is_out x.after.schedule) t phase (parts_are p n state deques mounted h told x none).state is_mounted e

      over_by : (alive : Bool) → ((alive ≡ true) ↔ (is_some (phase_at state.threads t) ≡ true)) → alive ≡ false → Over x.after.state t
      over_by alive tells dead = by (phase_at state.threads t) refl
        where
          by : (o : Option Phase) → phase_at state.threads t ≡ o → Over x.after.state t
          by None e = out_over state x.after.state (is_out x.after.schedule) t (parts_are p n state deques mounted h told x none).state is_mounted e
          by (Some phase) e = absurd (both_ways alive (tells.1 (ap is_some e)) dead)

      pub settle_kept : (new : ProgramState) (left : Lists) (on : List (Option ℕ)) (wanted alive : Bool) → length h < p.limits.events
          → ((alive ≡ true) ↔ (is_some (phase_at state.threads t) ≡ true)) → SameBut state new
          → new.frozen.items ≡ cond alive (slice_set state.frozen.items t (Some k)) state.frozen.items
          → ((r : State) (places : ℕ → Bool) → IsState state r places → wanted ≡ enabled r t)
          → left.lists ≡ push deques.lists c (cond wanted (t ∷ []) []) → left.threads ≡ deques.threads → on ≡ slice_set mounted c None
          → IsConsistent p n new left on (h ++ entry_of c (Unmount t) ∷ []) told
      settle_kept new left on wanted alive few tells same frozen is lists room puts =
          unmount_kept new left on few
          (settled_parts p x.first x.after n state deques mounted c t before new left on k wanted alive (live_by alive tells) (over_by alive tells) same
          the_hand number frozen (is x.after.state (is_out x.after.schedule) (parts_are p n state deques mounted h told x none).state) lists room puts)
