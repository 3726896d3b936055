-- A carrier takes up a thread.
use Rattle.std.proofs.Common.{◌≡◌, ◌≤◌, ℕ, true, List, Option, None, Some, length, slice_get, refl, ap, sym, subst, ◌∙◌, arith}
use Rattle.std.specs.Prelude.{slice_set}
use Rattle.items.proofs.Binds.{bind_is}
use Rattle.history.specs.declared.entry.What.TheVariants.{Mount}
use Rattle.continuation.specs.Continuation.{Continuation}
use Rattle.thread_lists.specs.Lists.{Lists}
use Rattle.run_deques.specs.Take.{after_take, next}
use Rattle.schedule_model.specs.Look.{is_live as looks_live}
use Rattle.schedule_model.specs.Schedule.{Schedule, on_carriers}
use Rattle.schedule_model.specs.Entries.{is_idle, mount, mounted_from}
use Rattle.schedule_model.specs.Run.{Scheduled, scheduled_after, with_schedule}
use Rattle.ref_model.specs.Setting.{Setting}
use Rattle.ref_model.specs.State.{State}
use Rattle.ref_model.specs.Ending.{ending}
use Rattle.ref_model.specs.Looks.{look_of, machine_from}
use Rattle.schedule_soundness.specs.HistoryLaws.{IsProgramAfter}
use Rattle.schedule_soundness.proofs.Histories.{deques_have_live}
use Rattle.program_state.specs.declared.state.ProgramState.{ProgramState}
use Rattle.machine.specs.Hands.{HasHand, IsLive}
use Rattle.machine.specs.Insides.{AreParts, IsFrozen, is_out}
use Rattle.machine.proofs.PlaceLaws.{in_from, mounts, next_in, take_length, taken_else, taken_here, taken_out}
use Rattle.machine.proofs.EndingLaws.{not_ended}
use Rattle.machine.proofs.EntryLaws.{is_scheduled}
use Rattle.machine.proofs.ListLaws.{lists_stay}
use Rattle.machine.proofs.StateLaws.{Lies, SameBut, lies, live_at, live_is, taken_state}

-- a history that goes on, of which carrier c is idle, and what it would take
pub record Before (p : Setting) (first : State) (v : Scheduled State) (n : ℕ) (state : ProgramState) (deques : Lists) (mounted : List (Option ℕ)) (c d t : ℕ) : Type 0 where
  pub after : IsProgramAfter p first v
  pub parts : AreParts n state deques mounted v
  pub going : ending v.state ≡ None
  pub idle : is_idle v.schedule c ≡ true
  pub found : next deques.lists c ≡ Some (d, t)

same_kept : (o : Option (Option Continuation)) (j k : Continuation) → o ≡ Some (Some j) → o ≡ Some (Some k) → j ≡ k
same_kept o j k e f = cc

module _ (p : Setting) (first : State) (v : Scheduled State) (n : ℕ) (state : ProgramState) (deques : Lists) (mounted : List (Option ℕ)) (c d t : ℕ) (h : Before p first v n state deques mounted c d t) where
  next_is : next v.schedule.deques c ≡ Some (d, t)
  next_is = ap (λ ls. next ls c) (sym h.parts.deques) ∙ h.found

  alive : (looks_live ((look_of p.world v.state).spot t) ≡ true) × (on_carriers t v.schedule ≡ 0)
  alive =
      deques_have_live p first v h.after (not_ended v.state h.going) t
      (next_in (look_of p.world v.state) v.schedule c d t (is_scheduled p first v h.after).sizes h.idle next_is)

  pub is_live : IsLive v.state t
  is_live = live_at p.world v.state t alive.0

  pub lies_there : Lies t is_live.live.thread (slice_get state.frozen.items t)
  lies_there =
      lies t (is_out v.schedule t) (slice_get v.state.threads t) (slice_get state.frozen.items t) is_live.live.thread (h.parts.state.kept t)
      (in_from v.schedule t alive.1) is_live.live.at (live_is v.state t is_live)

  pub is_frozen : IsFrozen state.frozen.items t
  is_frozen = record { kept = lies_there.kept; at = lies_there.at }

  abbrev pub then_schedule : Schedule
  then_schedule = mounted_from (look_of p.world v.state) v.schedule c (d, t)

  abbrev pub then : Scheduled State
  then = with_schedule v.state then_schedule

  pub mount_enters : scheduled_after (machine_from p first) v c (Mount t) ≡ Some then
  mount_enters =
      bind_is (mount (look_of p.world v.state) v.schedule c t) (λ s. Some (with_schedule v.state s)) then_schedule (Some then)
      (mounts (look_of p.world v.state) v.schedule c d t next_is h.idle (not_ended v.state h.going)) refl

  pub mounted_parts : (new : ProgramState) (left : Lists) (on : List (Option ℕ)) (taken : Option (ℕ × ℕ)) → taken ≡ Some (d, t) → SameBut state new
      → new.frozen.items ≡ slice_set state.frozen.items t None → left ≡ record deques { lists = after_take deques.lists taken } → on ≡ slice_set mounted c (Some t)
      → AreParts n new left on then
  mounted_parts new left on taken is same frozen lists puts =
      let l = look_of p.world v.state in
      let left_is : left.lists ≡ after_take v.schedule.deques (Some (d, t)) =
      ap (λ (x : Lists). x.lists) lists ∙ ap (after_take deques.lists) is ∙ ap (λ ls. after_take ls (Some (d, t))) h.parts.deques in
      let room : left.threads ≡ deques.threads = ap (λ (x : Lists). x.threads) lists in
      record {
        state =
            taken_state state new v.state (is_out v.schedule) (is_out then_schedule) t is_live lies_there.kept same h.parts.state lies_there.at frozen
            (taken_out l v.schedule c d t h.idle) (λ u ne. taken_else l v.schedule c d t u h.idle ne);
        lists = lists_stay state.monitors new.monitors v.schedule then_schedule same.monitors refl refl h.parts.lists;
        deques = left_is;
        room = subst (λ m. length v.state.threads ≤ m) (sym room) h.parts.room;
        mounted = puts ∙ ap (λ ms. slice_set ms c (Some t)) h.parts.mounted;
        carriers = take_length v.schedule.deques (Some (d, t)) ∙ h.parts.carriers;
      }

  -- the frames that were taken are those of the thread
  pub mounted_hand : (k : Continuation) → slice_get state.frozen.items t ≡ Some (Some k) → HasHand p then c t 0 k.stack.frames
  mounted_hand k at =
      let same : lies_there.kept ≡ k = same_kept (slice_get state.frozen.items t) lies_there.kept k lies_there.at at in
      let frames : is_live.live.thread.frames ≡ k.stack.frames = sym lies_there.frames ∙ ap (λ (x : Continuation). x.stack.frames) same in
      record {
        mounted = taken_here (look_of p.world v.state) v.schedule c d t h.idle;
        thread = is_live.live.thread;
        at = is_live.live.at;
        running = λ some. absurd (omega arith);
        ahead = ap Some frames;
      }

  pub mounted_number : (k : Continuation) → slice_get state.frozen.items t ≡ Some (Some k) → k.thread ≡ t
  mounted_number k at =
      let same : lies_there.kept ≡ k = same_kept (slice_get state.frozen.items t) lies_there.kept k lies_there.at at in
      ap (λ (x : Continuation). x.thread) (sym same) ∙ lies_there.number
