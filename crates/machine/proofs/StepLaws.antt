-- The step of a thread as an entry of the history.
use Rattle.std.proofs.Common.{◌≡◌, ◌≢◌, ◌⊎◌, ◌<◌, ◌≤◌, ◌==◌, inl, inr, ℕ, zero, suc, Bool, true, false, List, [], ◌∷◌, Option, None, Some, length, refl, ap, sym, subst, ◌∙◌, arith, cond, not, ◌&&◌, ◌||◌}
use Rattle.std.specs.Prelude.{◌↔◌, Contains, filter, is_none, is_some, map, nat_lt, slice_get}
use Rattle.std.specs.Option.{option_map_or}
use Rattle.std.proofs.lemmas.Bool.{and_parts, cases_lt, eq-eqb, ne_eqb}
use Rattle.std.proofs.lemmas.List.Kept.{IsStrictlyIncreasing-filter}
use Rattle.std.proofs.lemmas.Option.{slice_get_within}
use Rattle.history.specs.declared.entry.What.TheVariants.{Step}
use Rattle.vthread_state.specs.declared.phase.Phase.{Phase}
use Rattle.vthread_state.specs.declared.phase.Phase.TheVariants.{Run, Throwing, Entering, Waiting, Reenter, Parked, Asleep, Joining}
use Rattle.vthread_state.specs.declared.thread.Status.{Status}
use Rattle.vthread_state.specs.declared.thread.Status.TheVariants.{New, Live, Done}
use Rattle.vthread_state.specs.declared.thread.Thread.{Thread}
use Rattle.thread_lists.specs.Lists.{Lists, count, push, total}
use Rattle.link_model.specs.World.{World}
use Rattle.state_model.specs.Frames.{Frame}
use Rattle.continuation.specs.Continuation.{Continuation}
use Rattle.schedule_model.specs.Look.{Look, is_done as is_done_spot, is_entering, is_live as is_live_spot}
use Rattle.schedule_model.specs.Schedule.{Schedule, in_deques, places}
use Rattle.schedule_model.specs.Puts.{all_threads, beginning_with, put_by, updated_list}
use Rattle.schedule_model.specs.Entries.{after_step, has_to_leave}
use Rattle.schedule_model.specs.Run.{Scheduled, scheduled_after, with_schedule}
use Rattle.ref_model.specs.Setting.{Setting}
use Rattle.ref_model.specs.State.{JavaThread, State, with_frames}
use Rattle.ref_model.specs.Enabled.{has_ended, is_done, is_free, is_ready}
use Rattle.ref_model.specs.Entries.{is_grouped}
use Rattle.ref_model.specs.Ending.{ending, is_live}
use Rattle.ref_model.specs.Step.{enabled, step}
use Rattle.ref_model.specs.Looks.{is_pinned, look_of, machine_from, pins_of, spot_of, yields_next}
use Rattle.ref_model.proofs.StateLaws.{frames_is, get_set}
use Rattle.schedule_soundness.specs.HistoryLaws.{IsProgramAfter}
use Rattle.schedule_soundness.specs.PutLaws.{EndsNoWait, IsWoken as AnyWoken, OthersStay, Stays, rows_of}
use Rattle.schedule_soundness.proofs.Ahead.{steps_are_entries}
use Rattle.schedule_soundness.proofs.Histories.{deques_have_live, histories_go_on}
use Rattle.schedule_soundness.proofs.OtherMoves.{spot_at}
use Rattle.schedule_soundness.proofs.PutLaws.{ends_put_joiners, quiet_steps_put_nobody, starts_put_the_started, wakes_put_the_woken}
use Rattle.vthread_state.specs.Threads.{joins_in}
use Rattle.monitor_soundness.specs.ListLaws.{AreInLine}
use Rattle.monitor_soundness.specs.MonitorPuts.{MonitorStep, if_loose}
use Rattle.monitor_soundness.proofs.EndPuts.{ends_put_joiners_alone, ends_put_joiners_and_the_first}
use Rattle.monitor_soundness.proofs.ListLaws.{listed_are_in_line}
use Rattle.monitor_soundness.proofs.MonitorPuts.{enters_put_nobody, exits_put_the_first, interrupts_put_the_waiter, notifies_put_nobody, wakes_in_line_put_nobody}
use Rattle.monitor_steps.specs.Outcomes.{StaysOrKeeps, others_stay, owner_stays}
use Rattle.program_state.specs.declared.state.ProgramState.{ProgramState}
use Rattle.program_state.specs.States.{HasFrames, IsKept, IsState, absent, mounted, waiting, idle, is_started}
use Rattle.program_state.specs.Monitors.{ListsMove}
use Rattle.program_state.specs.Steps.{Awakes, IsWoken, PutsNobody, Starts, Wakes, gets, keeps_monitor, leaves_others, lines_up, notifies, tells}
use Rattle.program_state.specs.Waiting.{has_ended_in}
use Rattle.program_state.proofs.StateLaws.{frames_had, other_frames}
use Rattle.machine.specs.declared.made.Move.{Move}
use Rattle.machine.specs.Hands.{HasHand, IsLive}
use Rattle.machine.specs.Insides.{AreParts, is_out}
use Rattle.machine.specs.Lists.{HasLists}
use Rattle.machine.specs.Moves.{FreesFirst, IsMoved, PicksFirst, others_of, picked, step_with}
use Rattle.machine.specs.declared.made.Others.{Others}
use Rattle.machine.specs.declared.made.Others.TheVariants as moves
use Rattle.machine.specs.Puts.{ArePut, ArePutAtEnd, AreWokenWith, HasPut, IsBelow, IsTouched, all_over, at_end, first_freed, freed, goes_on, if_nowhere, is_loose, is_nowhere, is_quiet, nobody, started, woken}
use Rattle.machine.specs.Steps.{IsTold, StepsFrom, outcome_of}
use Rattle.machine.proofs.AheadLaws.{ahead_frees, ahead_keeps, ahead_quiet, ahead_starts, ahead_step, ahead_wakes, enabled_alive, enabled_going, hand_ahead}
use Rattle.machine.proofs.PlaceLaws.{in_none, mounted_out, out_on, push_length}
use Rattle.machine.proofs.EndingLaws.{not_ended}
use Rattle.machine.proofs.JoinerLaws.{AtEnd, put_joiners, put_woken}
use Rattle.machine.proofs.ListLaws.{lists_after_step}
use Rattle.machine.proofs.PickLaws.{may_pick}
use Rattle.machine.proofs.StateLaws.{live_at, live_is, rows_length}

no_both : (b : Bool) → b ≡ true → b ≡ false → ⊥
no_both b i j = absurd cc

same_thread : (o : Option JavaThread) (x y : JavaThread) → o ≡ Some x → o ≡ Some y → x ≡ y
same_thread o x y e f = cc

same_test : (a b : ℕ) → a ≡ b → (a == 0) ≡ (b == 0)
same_test a b e = ap (λ n. n == 0) e

-- the thread with other frames
with_at : (r : State) (t : ℕ) (x : JavaThread) (frames : List Frame) → slice_get r.threads t ≡ Some x
    → slice_get (with_frames r t frames).threads t ≡ Some (record x { frames = frames })
with_at r t x frames at =
    ap (λ (s : State). slice_get s.threads t) (frames_is r t x frames at) ∙ get_set r.threads t x (record x { frames = frames }) at

-- a thread that may step was started
never_new : (r : State) (t : ℕ) (x : JavaThread) → slice_get r.threads t ≡ Some x → enabled r t ≡ true → x.thread.status ≡ New → ⊥
never_new r t x at on new =
    let ready = (and_parts (is_none (ending r)) _ on).1 in
    no_both (is_ready r x x.thread.status) (sym (ap (λ o. option_map_or (λ (y : JavaThread). is_ready r y y.thread.status) o false) at) ∙ ready)
    (ap (is_ready r x) new)

-- who isn't live is in no deque
new_loose : (p : Setting) (first : State) (v : Scheduled State) (u : ℕ) → IsProgramAfter p first v → ending v.state ≡ None
    → is_live_spot ((look_of p.world v.state).spot u) ≡ false → in_deques u v.schedule ≡ 0
new_loose p first v u a going dead =
    elim (cases_lt 0 (in_deques u v.schedule)) [
      | inr none ↦ omega arith
      | inl there ↦ absurd (no_both (is_live_spot ((look_of p.world v.state).spot u)) (deques_have_live p first v a (not_ended v.state going) u there).0 dead)
    ]

done_status : (status : Status) → is_done_spot (spot_of status) ≡ is_done status
done_status New = refl
done_status Done = refl
done_status (Live Run) = refl
done_status (Live (Throwing o)) = refl
done_status (Live (Entering o)) = refl
done_status (Live (Waiting o count deadline)) = refl
done_status (Live (Reenter o count wake)) = refl
done_status (Live (Parked deadline)) = refl
done_status (Live (Asleep deadline)) = refl
done_status (Live (Joining u deadline)) = refl

done_spot_at : (o : Option JavaThread) → is_done_spot (spot_at o) ≡ option_map_or (λ (x : JavaThread). is_done x.thread.status) o false
done_spot_at None = refl
done_spot_at (Some x) = done_status x.thread.status

done_spot : (q : State) (t : ℕ) → is_done_spot (spot_at (slice_get q.threads t)) ≡ has_ended q t
done_spot q t = done_spot_at (slice_get q.threads t)

-- a started thread that hasn't ended is live
alive_status : (status : Status) → is_started status ≡ true → is_done status ≡ false → (phase : Phase) × (status ≡ Live phase)
alive_status New s e = absurd cc
alive_status (Live phase) s e = (phase, refl)
alive_status Done s e = absurd cc

live_from : (a : ProgramState) (r : State) (out : ℕ → Bool) (t : ℕ) → IsState a r out → out t ≡ true → has_ended r t ≡ false → IsLive r t
live_from a r out t is on alive = by (is.kept t)
  where
    by : IsKept t (out t) (slice_get r.threads t) (slice_get a.frozen.items t) → IsLive r t
    by (absent off there at) = absurd (no_both (out t) on off)
    by (mounted x here there at begun) =
        let s = alive_status x.thread.status begun (sym (ap (λ o. option_map_or (λ (y : JavaThread). is_done y.thread.status) o false) there) ∙ alive) in
        record { phase = s.0; live = record { thread = x; at = there; status = s.1 } }
    by (waiting x k off there at alive number frames) = absurd (no_both (out t) on off)
    by (idle x off there at dead) = absurd (no_both (out t) on off)

-- the table tells who has ended
done_row : (xs : List JavaThread) (t : ℕ)
    → option_map_or (λ (x : Thread). is_done x.status) (slice_get (map (λ (x : JavaThread). x.thread) xs) t) false
    ≡ option_map_or (λ (x : JavaThread). is_done x.thread.status) (slice_get xs t) false
done_row [] t = refl
done_row (x ∷ xs) zero = refl
done_row (x ∷ xs) (suc t) = done_row xs t

pub ended_in : (a : ProgramState) (r : State) (out : ℕ → Bool) (t : ℕ) → IsState a r out → has_ended_in a.threads t ≡ has_ended r t
ended_in a r out t is = ap (λ ts. option_map_or (λ (x : Thread). is_done x.status) (slice_get ts t) false) is.rows ∙ done_row r.threads t

-- who is first in a list is in it
first_contained : (us : List ℕ) (u : ℕ) → slice_get us 0 ≡ Some u → Contains us u
first_contained [] u e = absurd cc
first_contained (y ∷ us) u e = let same : y ≡ u = cc in (0, omega arith, same)

same_first : (f g : Option ℕ) → ◌≡◌ {A = Others} (moves.Frees f) (moves.Frees g) → f ≡ g
same_first f g e = cc

same_freed : (f g : Option ℕ) → ◌≡◌ {A = Option (Option ℕ)} (Some f) (Some g) → f ≡ g
same_freed f g e = cc

-- a thread that got a permit or an interrupt
as_woken : {r q : State} (u : ℕ) → IsWoken u r q → AnyWoken r q u
as_woken u h = record { old = h.old; new = h.new; was = h.was; is = h.is; status = h.status }

woken_lives : (u : ℕ) (r q : State) → Awakes u r q → (y : JavaThread) × (slice_get q.threads u ≡ Some y) × (is_live y.thread.status ≡ true)
woken_lives u r q (gets h off) = (h.new, h.is, ap is_live h.status ∙ h.live)
woken_lives u r q (lines_up i) = (i.new, i.is, ap is_live i.reenters)

-- ---- one step, from a history in which the thread may step

module _ (w : World) (n : ℕ) (state : ProgramState) (deques : Lists) (on : List (Option ℕ)) (c t k : ℕ) (frames : List Frame) (x : StepsFrom w n state deques on c t k frames) where
  abbrev pub v : Scheduled State
  v = x.before

  abbrev pub r : State
  r = with_frames v.state t frames

  abbrev pub out : ℕ → Bool
  out = is_out v.schedule

  is_mounted : out t ≡ true
  is_mounted = mounted_out v.schedule c t x.hand.mounted

  -- the parts are those of the state with the frames of the hand
  pub ahead_is : IsState state (with_frames x.before.state t frames) (is_out x.before.schedule)
  ahead_is = other_frames state v.state out t frames x.parts.state is_mounted

  pub ahead_out : is_out x.before.schedule t ≡ true
  ahead_out = is_mounted

  pub ahead_has : HasFrames (with_frames x.before.state t frames) t frames
  ahead_has = frames_had v.state t x.hand.thread frames x.hand.at

  going : ending v.state ≡ None
  going = enabled_going v.state t x.may

  alive : has_ended v.state t ≡ false
  alive = enabled_alive v.state t x.hand.thread x.hand.at x.may

  module _ (made : Move) (new : ProgramState) (after : List Frame) (move : ListsMove state.monitors new.monitors)
      (first : PicksFirst state.monitors (picked made.others)) (m : IsMoved w made t new after r out) where
    abbrev pub q : State
    q = m.leads.next

    stepped : step x.setting r t (picked made.others) ≡ Some q
    stepped =
        ahead_step x.setting v.state q t k frames (picked made.others) (hand_ahead x.setting v c t k frames x.hand) x.may
        (ap (λ u. step_with u t (picked made.others) r) x.world ∙ m.leads.makes)

    abbrev pub l : State → Look
    l s = look_of x.setting.world s

    abbrev pub then_schedule : Schedule
    then_schedule = after_step (look_of x.setting.world x.before.state) (look_of x.setting.world m.leads.next) x.before.schedule c t (yields_next x.setting.world (with_frames x.before.state t frames) t)

    abbrev pub then : Scheduled State
    then = with_schedule m.leads.next then_schedule

    pub step_enters : scheduled_after (machine_from x.setting x.first) x.before c (Step t (suc k) (picked made.others)) ≡ Some then
    step_enters =
        steps_are_entries x.setting x.first v q c t k frames (picked made.others) (record { mounted = x.hand.mounted; owes = x.owes; may = x.may })
        (may_pick x.setting.world v.state v.schedule state.monitors (picked made.others) x.parts.lists x.parts.state.monitors first)
        (hand_ahead x.setting v c t k frames x.hand) (subst (λ u. is_grouped u v.state t (suc k) ≡ true) (sym x.world) x.grouped) stepped

    pub after_then : IsProgramAfter x.setting x.first then
    after_then = histories_go_on x.setting x.first v then x.after c (Step t (suc k) (picked made.others)) step_enters

    -- ---- the lists of monitors

    then_lists : HasLists new.monitors then_schedule
    then_lists =
        lists_after_step x.setting.world v.state q v.schedule state.monitors new.monitors x.parts.lists x.parts.state.monitors m.leads.is.monitors move c t
        (yields_next x.setting.world r t)

    abbrev pub entry_list : ℕ → List ℕ
    entry_list o = updated_list (is_entering o) (l v.state) (l q) (beginning_with (v.schedule.wait_list o) (l q)) (v.schedule.entry_list o)

    in_line : (o : ℕ) → AreInLine (look_of x.setting.world q) o (entry_list o)
    in_line o = listed_are_in_line (l q) then_schedule o (record {
      waits = λ u i. ap (count u) (sym (then_lists.waits i)) ∙ m.leads.is.monitors.waits u i;
      enters = λ u i. ap (count u) (sym (then_lists.enters i)) ∙ m.leads.is.monitors.enters u i;
    })

    below : (u : ℕ) (z : JavaThread) → slice_get q.threads u ≡ Some z → u < length new.threads.threads
    below u z at =
        let same = rows_length new q out m.leads.is in
        let inside = slice_get_within q.threads u z at in
        omega arith

    -- the first in line for a monitor that the step left
    abbrev pub Freed : Option ℕ → Type 0
    Freed f = FreesFirst new.monitors f t v.state q

    first_listed : (f : Option ℕ) (h : Freed f) → f ≡ slice_get (entry_list h.monitor) 0
    first_listed f h = h.first_is ∙ ap (λ us. slice_get us 0) (then_lists.enters h.monitor)

    first_lives : (f : Option ℕ) → Freed f → (u : ℕ) → f ≡ Some u → IsLive q u
    first_lives f h u is =
        live_at x.setting.world q u
        (ap is_live_spot (in_line h.monitor u (first_contained (entry_list h.monitor) u (sym (first_listed f h) ∙ is))))

    -- ---- who is put

    abbrev pub puts : List ℕ
    puts = put_by (l v.state) (l q) entry_list v.schedule (all_threads (l q))

    ends_in : has_ended_in new.threads t ≡ has_ended q t
    ends_in = ended_in new q out t m.leads.is

    -- whether a live thread is nowhere, and whether it is in no place
    nowhere_is : (u : ℕ) (y : JavaThread) → slice_get q.threads u ≡ Some y → is_live y.thread.status ≡ true
        → is_nowhere new deques.lists u ≡ (places u v.schedule == 0)
    nowhere_is u y here alive = by (new_kept u)
      where
        new_kept : (i : ℕ) → IsKept i (out i) (slice_get q.threads i) (slice_get new.frozen.items i)
        new_kept = m.leads.is.kept

        live : (z : JavaThread) → slice_get q.threads u ≡ Some z → is_live z.thread.status ≡ true
        live z at = ap (λ (y : JavaThread). is_live y.thread.status) (same_thread (slice_get q.threads u) z y at here) ∙ alive

        by : IsKept u (out u) (slice_get q.threads u) (slice_get new.frozen.items u) → is_nowhere new deques.lists u ≡ (places u v.schedule == 0)
        by (absent off there at) = let no : ◌≡◌ {A = Option JavaThread} None (Some y) = sym there ∙ here in absurd cc
        by (mounted z on there at begun) =
            let up = out_on v.schedule u on in
            ap (λ o. option_map_or (λ (k : Option Continuation). is_some k) o false && is_loose deques.lists u) at
            ∙ sym (ne_eqb (places u v.schedule) 0 (λ none. absurd (omega arith)))
        by (waiting z k off there at alive number frames_are) =
            let down = in_none v.schedule u off in
            ap (λ o. option_map_or (λ (k : Option Continuation). is_some k) o false && is_loose deques.lists u) at
            ∙ ap (λ ls. total (count u) ls == 0) x.parts.deques
            ∙ same_test (in_deques u v.schedule) (places u v.schedule) (omega arith)
        by (idle z off there at dead) = absurd (no_both (is_live z.thread.status) (live z there) dead)

    -- nobody

    stays_put : OthersStay t v.state q → EndsNoWait q t → puts ≡ []
    stays_put others ends = quiet_steps_put_nobody x.setting v q c t entry_list x.hand.mounted going others ends

    owner_put : (o : ℕ) → MonitorStep t o v.state q → is_free q o ≡ false → EndsNoWait q t → puts ≡ []
    owner_put o one owned ends = enters_put_nobody x.setting v q c t o entry_list x.hand.mounted going one ends owned

    kept_put : StaysOrKeeps t v.state q → EndsNoWait q t → puts ≡ []
    kept_put (others_stay others) ends = stays_put others ends
    kept_put (owner_stays o one owned) ends = owner_put o one owned ends

    nobody_put : PutsNobody t v.state q → EndsNoWait q t → puts ≡ []
    nobody_put (leaves_others others) ends = stays_put others ends
    nobody_put (tells u h) ends = wakes_in_line_put_nobody x.setting v q c t u entry_list x.hand.mounted going h.others ends (as_woken u h.told) h.in_line
    nobody_put (keeps_monitor o one owned) ends = owner_put o one owned ends
    nobody_put (notifies o h) ends = notifies_put_nobody x.setting v q c t o entry_list x.hand.mounted going h ends

    quiet_put : (s : Others) → is_quiet s ≡ true → others_of new.monitors t s r q → EndsNoWait q t → puts ≡ []
    quiet_put moves.Stay e h ends = kept_put (ahead_keeps v.state q t x.hand.thread frames x.hand.at h) ends
    quiet_put moves.Quiet e h ends = nobody_put (ahead_quiet v.state q t x.hand.thread frames x.hand.at h) ends
    quiet_put (moves.Starts u) e h ends = absurd cc
    quiet_put (moves.Wakes u) e h ends = absurd cc
    quiet_put (moves.Frees f) e h ends = absurd cc
    quiet_put (moves.Notifies u) e h ends = nobody_put (ahead_quiet v.state q t x.hand.thread frames x.hand.at h) ends

    -- a thread that was started

    starts : (s : Others) (u : ℕ) → s ≡ moves.Starts u → others_of new.monitors t s r q → Starts t u r q
    starts moves.Stay u e h = absurd cc
    starts moves.Quiet u e h = absurd cc
    starts (moves.Starts s) u e h = let same : s ≡ u = cc in subst (λ n. Starts t n r q) same h
    starts (moves.Wakes s) u e h = absurd cc
    starts (moves.Frees f) u e h = absurd cc
    starts (moves.Notifies s) u e h = absurd cc

    -- it is another, since it was never started before
    started_other : (u : ℕ) → Starts t u r q → u ≢ t
    started_other u s same =
        let y : JavaThread = record x.hand.thread { frames = frames } in
        let at : slice_get r.threads t ≡ Some s.new.thread = subst (λ i. slice_get r.threads i ≡ Some s.new.thread) same s.new.there in
        let is : y ≡ s.new.thread = same_thread (slice_get r.threads t) y s.new.thread (with_at v.state t x.hand.thread frames x.hand.at) at in
        never_new v.state t x.hand.thread x.hand.at x.may (ap (λ (z : JavaThread). z.thread.status) is ∙ s.new.status)

    starts_so : (u : ℕ) → Starts t u r q → Starts t u v.state q
    starts_so u s = ahead_starts v.state q t u x.hand.thread frames x.hand.at (started_other u s) s

    one_put : (u : ℕ) → Starts t u v.state q → has_ended q t ≡ false → puts ≡ u ∷ []
    one_put u s goes = starts_put_the_started x.setting x.first v q c t u entry_list x.after x.hand.mounted going s.others (inl goes) s.new s.live

    -- one that got a permit or an interrupt

    wakes : (s : Others) (u : ℕ) → s ≡ moves.Wakes u → others_of new.monitors t s r q → Wakes t u r q
    wakes moves.Stay u e h = absurd cc
    wakes moves.Quiet u e h = absurd cc
    wakes (moves.Starts s) u e h = absurd cc
    wakes (moves.Wakes s) u e h = let same : s ≡ u = cc in subst (λ n. Wakes t n r q) same h
    wakes (moves.Frees f) u e h = absurd cc
    wakes (moves.Notifies s) u e h = absurd cc

    woken_put : (u : ℕ) → Wakes t u v.state q → Awakes u v.state q → has_ended q t ≡ false → ending q ≡ None
        → puts ≡ cond ((places u v.schedule == 0) && enabled q u) (u ∷ []) []
    woken_put u h (gets roused off) alive_then goes =
        wakes_put_the_woken x.setting x.first v q c t u entry_list x.after x.hand.mounted going h.others (inl alive_then) (as_woken u roused) off
    woken_put u h (lines_up i) alive_then goes =
        interrupts_put_the_waiter x.setting v q c t u i.monitor entry_list x.hand.mounted going goes h.others (inl alive_then)
        (ap (λ o. spot_at o) i.was ∙ ap spot_of i.waited) (ap (λ o. spot_at o) i.is ∙ ap spot_of i.reenters)

    one_woken : (u : ℕ) (goes : Bool) → Wakes t u v.state q → has_ended q t ≡ false → ending q ≡ None → goes ≡ enabled q u
        → puts ≡ cond (is_nowhere new deques.lists u && goes) (u ∷ []) []
    one_woken u goes h alive_then on told =
        let z = woken_lives u v.state q h.woken in
        woken_put u h h.woken alive_then on
        ∙ ap (λ i. cond (i && enabled q u) (u ∷ []) []) (sym (nowhere_is u z.0 z.1 z.2))
        ∙ ap (λ i. cond (is_nowhere new deques.lists u && i) (u ∷ []) []) (sym told)

    -- the first in line

    frees : (s : Others) (f : Option ℕ) → s ≡ moves.Frees f → others_of new.monitors t s r q → Freed f
    frees moves.Stay f e h = absurd cc
    frees moves.Quiet f e h = absurd cc
    frees (moves.Starts u) f e h = absurd cc
    frees (moves.Wakes u) f e h = absurd cc
    frees (moves.Frees g) f e h =
        let same : g ≡ f = same_first g f e in
        ahead_frees v.state q t x.hand.thread frames new.monitors f x.hand.at (subst (λ i. FreesFirst new.monitors i t r q) same h)
    frees (moves.Notifies u) f e h = absurd cc

    nowhere_first : (f : Option ℕ) → ((u : ℕ) → f ≡ Some u → IsLive q u) → if_loose f v.schedule ≡ if_nowhere new deques.lists f
    nowhere_first None lives = refl
    nowhere_first (Some u) lives =
        let l = lives u refl in
        ap (λ b. cond b (u ∷ []) []) (sym (nowhere_is u l.live.thread l.live.at (live_is q u l)))

    freed_put : (f : Option ℕ) → Freed f → EndsNoWait q t → puts ≡ if_nowhere new deques.lists f
    freed_put f h ends =
        exits_put_the_first x.setting v q c t h.monitor entry_list x.hand.mounted going h.frees.step ends h.frees.loses (in_line h.monitor)
        ∙ ap (λ o. if_loose o v.schedule) (sym (first_listed f h)) ∙ nowhere_first f (first_lives f h)

    -- with the end of the thread

    -- what the step did that ended it
    abbrev pub MayEnd : Option ℕ → Type 0
    MayEnd f = ((f ≡ None) × StaysOrKeeps t v.state q) ⊎ Freed f

    may_end : (s : Others) (f : Option ℕ) → first_freed s ≡ Some f → others_of new.monitors t s r q → MayEnd f
    may_end moves.Stay f e h = inl (sym (same_freed None f e), ahead_keeps v.state q t x.hand.thread frames x.hand.at h)
    may_end moves.Quiet f e h = absurd cc
    may_end (moves.Starts u) f e h = absurd cc
    may_end (moves.Wakes u) f e h = absurd cc
    may_end (moves.Frees g) f e h = inr (frees (moves.Frees g) f (ap moves.Frees (same_freed g f e)) h)
    may_end (moves.Notifies u) f e h = absurd cc

    over_put : (f : Option ℕ) → MayEnd f → EndsNoWait q t → puts ≡ if_nowhere new deques.lists f
    over_put f (inl kept) ends = kept_put kept.1 ends ∙ ap (if_nowhere new deques.lists) (sym kept.0)
    over_put f (inr h) ends = freed_put f h ends

    at_end_of : ((u : ℕ) → u ≢ t → Stays (slice_get v.state.threads u) (slice_get q.threads u)) → has_ended q t ≡ true → AtEnd x.setting x.first v q new t
    at_end_of others ended = record { after = x.after; going = going; out = is_mounted; others = others; is = m.leads.is; ended = ended }

    end_put : (f : Option ℕ) (ws : List ℕ) → MayEnd f → has_ended q t ≡ true → ending q ≡ None → AreWokenWith t new f ws
        → puts ≡ filter (is_loose v.schedule.deques) ws
    end_put f ws (inl (none, others_stay others)) ended on are =
        ends_put_joiners x.setting x.first v q c t entry_list (filter (is_loose v.schedule.deques) ws) x.after x.hand.mounted going on others ended
        (IsStrictlyIncreasing-filter (is_loose v.schedule.deques) ws are.rising)
        (put_joiners x.setting x.first v q new t f ws none (at_end_of others.threads ended) are)
    end_put f ws (inl (none, owner_stays o one owned)) ended on are =
        ends_put_joiners_alone x.setting x.first v q c t o entry_list (filter (is_loose v.schedule.deques) ws) x.after x.hand.mounted going on one ended owned
        (IsStrictlyIncreasing-filter (is_loose v.schedule.deques) ws are.rising)
        (put_joiners x.setting x.first v q new t f ws none (at_end_of one.threads ended) are)
    end_put f ws (inr h) ended on are =
        ends_put_joiners_and_the_first x.setting x.first v q c t h.monitor entry_list (filter (is_loose v.schedule.deques) ws) x.after x.hand.mounted going on
        h.frees.step ended h.frees.loses (in_line h.monitor) (IsStrictlyIncreasing-filter (is_loose v.schedule.deques) ws are.rising)
        (λ u. subst (λ o. Contains (filter (is_loose v.schedule.deques) ws) u ↔ (((joins_in (rows_of v.state) u ≡ Some t) ⊎ (o ≡ Some u)) × (places u v.schedule ≡ 0)))
        (first_listed f h) (put_woken x.setting x.first v q new t f ws (at_end_of h.frees.step.threads ended) are (first_lives f h) u))

    ended_put : (f : Option ℕ) (ws : List ℕ) → MayEnd f → ArePutAtEnd new deques.lists t f ws → puts ≡ ws
    ended_put f ws may (all_over over is) = over_put f may (inr (over.told, sym (over.is q out m.leads.is))) ∙ sym is
    ended_put f ws may (goes_on roused ended on who is) =
        end_put f roused may (sym ends_in ∙ ended) (sym (on q out m.leads.is)) who
        ∙ ap (λ ls. filter (is_loose ls) roused) (sym x.parts.deques) ∙ sym is

    puts_are : (ws : List ℕ) → ArePut new deques.lists t made.others ws → puts ≡ ws
    puts_are ws (nobody quiet goes is) = quiet_put made.others quiet m.leads.others (inl (sym ends_in ∙ goes)) ∙ sym is
    puts_are ws (started u e goes is) = one_put u (starts_so u (starts made.others u e m.leads.others)) (sym ends_in ∙ goes) ∙ sym is
    puts_are ws (woken u goes e alive_then on told is) =
        one_woken u goes (ahead_wakes v.state q t u x.hand.thread frames x.hand.at (wakes made.others u e m.leads.others)) (sym ends_in ∙ alive_then)
        (sym (on q out m.leads.is)) (told q out m.leads.is) ∙ sym is
    puts_are ws (freed f e goes is) = freed_put f (frees made.others f e m.leads.others) (inl (sym ends_in ∙ goes)) ∙ sym is
    puts_are ws (at_end f e are) = ended_put f ws (may_end made.others f e m.leads.others) are

    -- who is started was in no deque
    pub start_free : (u : ℕ) → made.others ≡ moves.Starts u → total (count u) deques.lists ≡ 0
    start_free u e =
        let b = starts_so u (starts made.others u e m.leads.others) in
        ap (total (count u)) x.parts.deques
        ∙ new_loose x.setting x.first v u x.after going (ap (λ o. is_live_spot (spot_at o)) b.new.there ∙ ap (λ i. is_live_spot (spot_of i)) b.new.status)

    pub touched : IsTouched made.others (length new.threads.threads)
    touched = by made.others m.leads.others
      where
        first_below : (f : Option ℕ) → ((u : ℕ) → f ≡ Some u → IsLive q u) → IsBelow f (length new.threads.threads)
        first_below None lives = tt
        first_below (Some u) lives = let l = lives u refl in below u l.live.thread l.live.at

        by : (s : Others) → others_of new.monitors t s r q → IsTouched s (length new.threads.threads)
        by moves.Stay h = tt
        by moves.Quiet h = tt
        by (moves.Starts u) h = below u h.live.thread h.live.there
        by (moves.Wakes u) h = let z = woken_lives u r q h.woken in below u z.0 z.1
        by (moves.Frees f) h = first_below f (first_lives f (frees (moves.Frees f) f refl h))
        by (moves.Notifies u) h = tt

    -- ---- afterwards

    pub then_parts : (left : Lists) → HasPut new t made.others c deques.lists left.lists → length new.threads.threads ≤ left.threads
        → AreParts n new left on then
    then_parts left put room = record {
      state = m.leads.is;
      lists = then_lists;
      deques = put.lists ∙ ap (λ ls. push ls c put.threads) x.parts.deques ∙ ap (push v.schedule.deques c) (sym (puts_are put.threads put.who));
      room = let same = rows_length new q out m.leads.is in omega arith;
      mounted = x.parts.mounted;
      carriers = push_length v.schedule.deques c puts ∙ x.parts.carriers;
    }

    pub then_hand : HasHand x.setting then c t 0 after
    then_hand = record {
      mounted = x.hand.mounted;
      thread = m.leads.has.thread;
      at = m.leads.has.at;
      running = λ some. absurd (omega arith);
      ahead = ap Some m.leads.has.has;
    }

    -- whether it is pinned is seen by its frames
    abbrev pins : Bool
    pins = nat_lt 0 (pins_of w after)

    pinned_is : (l q).pinned t ≡ pins
    pinned_is =
        ap (λ o. option_map_or (is_pinned x.setting.world) o false) m.leads.has.at ∙ ap (λ fs. nat_lt 0 (pins_of x.setting.world fs)) m.leads.has.has
        ∙ ap (λ u. nat_lt 0 (pins_of u after)) x.world

    yields_is : yields_next x.setting.world r t ≡ made.yields
    yields_is = ap (λ u. yields_next u r t) x.world ∙ m.yields

    owes_is : then_schedule.owes t ≡ (has_ended q t || (not pins && (made.yields || not (enabled q t))))
    owes_is =
        let yields = yields_next x.setting.world r t in
        ap (λ b. cond b (has_to_leave (l q) t yields) (v.schedule.owes t)) (eq-eqb t t refl)
        ∙ ap (λ b. b || (not ((l q).pinned t) && (yields || not (enabled q t)))) (done_spot q t)
        ∙ ap (λ b. has_ended q t || (not b && (yields || not (enabled q t)))) pinned_is
        ∙ ap (λ b. has_ended q t || (not pins && (b || not (enabled q t)))) yields_is

    pub then_outcome : IsTold w (outcome_of (has_ended m.leads.next t) (nat_lt 0 (pins_of w after)) made.yields (enabled m.leads.next t)) then t
    then_outcome = by (has_ended q t) pins made.yields (enabled q t) refl refl refl owes_is
      where
        held : (look_of w q).pinned t ≡ pins
        held = subst (λ u. (look_of u q).pinned t ≡ pins) x.world pinned_is

        by : (ended pinned yields goes : Bool) → has_ended q t ≡ ended → pins ≡ pinned → enabled q t ≡ goes
            → then_schedule.owes t ≡ (ended || (not pinned && (yields || not goes))) → IsTold w (outcome_of ended pinned yields goes) then t
        by true pinned yields goes is pin on owes = (owes, is)
        by false true yields true is pin on owes = (owes, on)
        by false true yields false is pin on owes = (owes, record { live = live_from new q out t m.leads.is is_mounted is; pinned = held ∙ pin; off = on })
        by false false true goes is pin on owes = (owes, live_from new q out t m.leads.is is_mounted is)
        by false false false true is pin on owes = (owes, on)
        by false false false false is pin on owes = (owes, live_from new q out t m.leads.is is_mounted is)
