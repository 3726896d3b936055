-- A carrier puts down a thread.
use Rattle.std.proofs.Common.{◌≡◌, ◌≢◌, ◌<◌, ◌≤◌, ℕ, Bool, true, false, List, [], ◌∷◌, Option, None, Some, length, slice_get, refl, ap, sym, subst, ◌∙◌, arith, cond}
use Rattle.std.specs.Prelude.{slice_set, is_none}
use Rattle.std.specs.Option.{option_map_or}
use Rattle.std.proofs.lemmas.Bool.{and_parts, and_right}
use Rattle.items.proofs.Binds.{bind_is}
use Rattle.history.specs.declared.entry.What.TheVariants.{Unmount}
use Rattle.continuation.specs.Continuation.{Continuation}
use Rattle.state_model.specs.Frames.{Frame}
use Rattle.thread_lists.specs.Lists.{Lists, count, push, total}
use Rattle.schedule_model.specs.Schedule.{Schedule}
use Rattle.schedule_model.specs.Entries.{after_unmount, has_mounted, is_idle, may_unmount, unmount}
use Rattle.schedule_model.specs.Run.{Scheduled, scheduled_after, with_schedule}
use Rattle.ref_model.specs.Setting.{Setting}
use Rattle.ref_model.specs.State.{JavaThread, State}
use Rattle.ref_model.specs.Enabled.{has_ended, is_ready}
use Rattle.ref_model.specs.Ending.{ending}
use Rattle.ref_model.specs.Step.{enabled}
use Rattle.ref_model.specs.Looks.{look_of, machine_from}
use Rattle.schedule_soundness.specs.HistoryLaws.{IsProgramAfter}
use Rattle.schedule_soundness.proofs.Histories.{in_one_place, mounted_in_no_deque}
use Rattle.program_state.specs.declared.state.ProgramState.{ProgramState}
use Rattle.program_state.specs.States.{IsState}
use Rattle.machine.specs.Hands.{HasHand, IsLive}
use Rattle.machine.specs.Insides.{AreParts, is_out}
use Rattle.machine.proofs.PlaceLaws.{mounted_out, mounted_within, out_on, push_length, push_none, put_else, put_idle, put_in, unmounts}
use Rattle.machine.proofs.EntryLaws.{is_scheduled}
use Rattle.machine.proofs.ListLaws.{lists_stay}
use Rattle.machine.proofs.StateLaws.{Over, SameBut, ended_state, over_at, put_state}

-- a history after which carrier c may put down thread t
pub record Before (p : Setting) (first : State) (v : Scheduled State) (n : ℕ) (state : ProgramState) (deques : Lists) (mounted : List (Option ℕ)) (c t : ℕ) : Type 0 where
  pub after : IsProgramAfter p first v
  pub parts : AreParts n state deques mounted v
  pub may : may_unmount (look_of p.world v.state) v.schedule c t ≡ true

not_enabled : (r : State) (t : ℕ) → Over r t → enabled r t ≡ false
not_enabled r t x =
    and_right (is_none (ending r)) _ (ap (λ o. option_map_or (λ (y : JavaThread). is_ready r y y.thread.status) o false) x.at
    ∙ ap (λ s. is_ready r x.thread s) x.status)

same_thread : (o : Option JavaThread) (x y : JavaThread) → o ≡ Some x → o ≡ Some y → x ≡ y
same_thread o x y e f = cc

same_frames : (xs ys : List Frame) → ◌≡◌ {A = Option (List Frame)} (Some xs) (Some ys) → xs ≡ ys
same_frames xs ys e = cc

module _ (p : Setting) (first : State) (v : Scheduled State) (n : ℕ) (state : ProgramState) (deques : Lists) (mounted : List (Option ℕ)) (c t : ℕ) (h : Before p first v n state deques mounted c t) where
  pub has : has_mounted v.schedule c t ≡ true
  has = (and_parts (has_mounted v.schedule c t) _ h.may).0

  pub out : is_out v.schedule t ≡ true
  out = mounted_out v.schedule c t has

  pub within : c < length mounted
  within = subst (λ ms. c < length ms) (sym h.parts.mounted) (mounted_within v.schedule c t has)

  pub within_deques : c < length deques.lists
  within_deques =
      let sizes = (is_scheduled p first v h.after).sizes in
      let lists = ap (λ ls. length ls) h.parts.deques in
      let inside = mounted_within v.schedule c t has in
      omega arith

  pub in_no_deque : total (count t) deques.lists ≡ 0
  in_no_deque = ap (total (count t)) h.parts.deques ∙ mounted_in_no_deque p first v h.after t (out_on v.schedule t out)

  abbrev pub then_schedule : Schedule
  then_schedule = after_unmount (look_of p.world v.state) v.schedule c t

  abbrev pub then : Scheduled State
  then = with_schedule v.state then_schedule

  pub unmount_enters : scheduled_after (machine_from p first) v c (Unmount t) ≡ Some then
  unmount_enters =
      bind_is (unmount (look_of p.world v.state) v.schedule c t) (λ s. Some (with_schedule v.state s)) then_schedule (Some then)
      (unmounts (look_of p.world v.state) v.schedule c t h.may) refl

  off : is_out then_schedule t ≡ false
  off = put_in (look_of p.world v.state) v.schedule c t has (in_one_place p first v h.after t)

  elsewhere : (u : ℕ) → u ≢ t → is_out then_schedule u ≡ is_out v.schedule u
  elsewhere u ne = put_else (look_of p.world v.state) v.schedule c t u has ne

  pub then_idle : is_idle then_schedule c ≡ true
  then_idle = put_idle (look_of p.world v.state) v.schedule c t has

  -- the frames of a live thread come to those that no carrier runs; one that has ended has none there
  settled_state : (new : ProgramState) (k : Continuation) (alive : Bool) → (alive ≡ true → IsLive v.state t) → (alive ≡ false → Over v.state t)
      → SameBut state new → HasHand p v c t 0 k.stack.frames → k.thread ≡ t
      → new.frozen.items ≡ cond alive (slice_set state.frozen.items t (Some k)) state.frozen.items → IsState new v.state (is_out then_schedule)
  settled_state new k true live over same hand number frozen =
      let x = live refl in
      let own : hand.thread ≡ x.live.thread = same_thread (slice_get v.state.threads t) hand.thread x.live.thread hand.at x.live.at in
      let frames : k.stack.frames ≡ x.live.thread.frames = sym (same_frames hand.thread.frames k.stack.frames hand.ahead) ∙ ap (λ (y : JavaThread). y.frames) own in
      put_state state new v.state (is_out v.schedule) (is_out then_schedule) t x k same h.parts.state out number frames frozen off elsewhere
  settled_state new k false live over same hand number frozen =
      ended_state state new v.state (is_out v.schedule) (is_out then_schedule) t (over refl) same frozen h.parts.state out off elsewhere

  pub settled_parts : (new : ProgramState) (left : Lists) (on : List (Option ℕ)) (k : Continuation) (wanted alive : Bool) → (alive ≡ true → IsLive v.state t)
      → (alive ≡ false → Over v.state t) → SameBut state new → HasHand p v c t 0 k.stack.frames → k.thread ≡ t
      → new.frozen.items ≡ cond alive (slice_set state.frozen.items t (Some k)) state.frozen.items → wanted ≡ enabled v.state t
      → left.lists ≡ push deques.lists c (cond wanted (t ∷ []) []) → left.threads ≡ deques.threads → on ≡ slice_set mounted c None
      → AreParts n new left on then
  settled_parts new left on k wanted alive live over same hand number frozen is lists room puts =
      record {
        state = settled_state new k alive live over same hand number frozen;
        lists = lists_stay state.monitors new.monitors v.schedule then_schedule same.monitors refl refl h.parts.lists;
        deques = lists ∙ ap (λ ls. push ls c (cond wanted (t ∷ []) [])) h.parts.deques ∙ ap (λ b. push v.schedule.deques c (cond b (t ∷ []) [])) is;
        room = subst (λ m. length v.state.threads ≤ m) (sym room) h.parts.room;
        mounted = puts ∙ ap (λ ms. slice_set ms c None) h.parts.mounted;
        carriers = push_length v.schedule.deques c (cond (enabled v.state t) (t ∷ []) []) ∙ h.parts.carriers;
      }

  -- a thread that has ended
  pub retired_parts : (on : List (Option ℕ)) → has_ended v.state t ≡ true → on ≡ slice_set mounted c None → AreParts n state deques on then
  retired_parts on ended puts =
      let x = over_at v.state t ended in
      record {
        state = ended_state state state v.state (is_out v.schedule) (is_out then_schedule) t x (record { memory = refl; threads = refl; wakes = refl; monitors = refl; wheel = refl; keys = refl; now = refl; unnamed = refl; most_threads = refl }) refl h.parts.state out off elsewhere;
        lists = lists_stay state.monitors state.monitors v.schedule then_schedule refl refl refl h.parts.lists;
        deques =
            h.parts.deques ∙ sym (push_none v.schedule.deques c)
            ∙ ap (λ b. push v.schedule.deques c (cond b (t ∷ []) [])) (sym (not_enabled v.state t x));
        room = h.parts.room;
        mounted = puts ∙ ap (λ ms. slice_set ms c None) h.parts.mounted;
        carriers = push_length v.schedule.deques c (cond (enabled v.state t) (t ∷ []) []) ∙ h.parts.carriers;
      }
