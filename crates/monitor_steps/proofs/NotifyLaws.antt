-- What is answered to notify.
use Rattle.std.proofs.Common.{append-nil, ◌≡◌, ◌≢◌, ◌<◌, ◌==◌, ◌++◌, ◌&&◌, ◌||◌, ◌⊎◌, inl, inr, eqb, arith, ℕ, suc, Bool, true, false, List, [], ◌∷◌, Option, Some, None, refl, ap, sym, subst, ◌∙◌}
use Rattle.std.specs.Prelude.{drop, map, if◌then◌else◌, slice_get, slice_set, take}
use Rattle.std.specs.List.{list_any}
use Rattle.std.specs.Option.{option_map, option_map_or}
use Rattle.std.proofs.lemmas.Bool.{eqb-true}
use Rattle.std.proofs.lemmas.Bool.Decides.{eqb_tells}
use Rattle.thread_lists.specs.Lists.{count}
use Rattle.thread_lists.proofs.CountLaws.{count-same, count-other, first-held}
use Rattle.vthread_state.specs.declared.phase.Phase.TheVariants.{Run, Throwing, Entering, Waiting, Reenter, Parked, Asleep, Joining}
use Rattle.vthread_state.specs.declared.phase.Wake.TheVariants.{Notified}
use Rattle.vthread_state.specs.declared.thread.Status.{Status}
use Rattle.vthread_state.specs.declared.thread.Status.TheVariants.{New, Live, Done}
use Rattle.vthread_state.specs.declared.thread.Thread.{Thread}
use Rattle.vthread_state.specs.Threads.{thread_at, with_status as with_status_at}
use Rattle.link_model.specs.World.{World}
use Rattle.state_model.specs.Frames.{Frame}
use Rattle.continuation.specs.Continuation.{Continuation}
use Rattle.schedule_model.specs.Look.{absent, in_wait_list, is_entering, is_waiting}
use Rattle.schedule_model.specs.Woken.{once_if}
use Rattle.monitors.specs.Monitors.{Becomes, Monitors, after_notify, monitor_of}
use Rattle.ref_model.specs.declared.exception.Exception.TheVariants as exceptions
use Rattle.ref_model.specs.Asking.{goes}
use Rattle.ref_model.specs.Ending.{is_live}
use Rattle.ref_model.specs.Looks.{spot_of}
use Rattle.ref_model.specs.Monitors.{owns}
use Rattle.ref_model.specs.Requesting.{none_notified}
use Rattle.ref_model.specs.Requests.{notifies as asks_notify}
use Rattle.ref_model.specs.State.{JavaThread, State}
use Rattle.ref_model.specs.Throwing.{raised}
use Rattle.ref_model.specs.Waiting.{is_waiting_on, status_waits_on, status_woken, thread_waits_on, thread_woken, with_notified}
use Rattle.ref_model.proofs.StateLaws.{get_set}
use Rattle.schedule_soundness.proofs.ThreadLists.{set_other}
use Rattle.monitor_soundness.specs.MonitorPuts.{StaysOrIsNotified, is_notified, stays}
use Rattle.program_state.specs.declared.state.ProgramState.{ProgramState}
use Rattle.program_state.specs.Deadlines.{deadlines_of}
use Rattle.program_state.specs.Monitors.{HaveSameLists, notifies as list_notifies, owner_in, spot_at}
use Rattle.program_state.specs.States.{IsInPhase, IsKept, IsState}
use Rattle.program_state.specs.States as places
use Rattle.program_state.specs.Steps.{leaves_others, notifies}
use Rattle.program_state.proofs.RequestLaws.{notified_then}
use Rattle.program_state.proofs.StateLaws.{row_back, stays_same, thread_is}
use Rattle.monitor_steps.specs.declared.outcome.MonitorOutcome.TheVariants as outcomes
use Rattle.monitor_steps.specs.declared.reply.MonitorReply.TheVariants as replies
use Rattle.monitor_steps.specs.Owners.{owns_in}
use Rattle.monitor_steps.specs.Replies.{AnswersSo, GoesFrom}
use Rattle.monitor_steps.specs.Waits.{IsNotifiedThere, NotifiesFirst, WaitEnds}
use Rattle.monitor_steps.proofs.ExitLaws.{not_owned}
use Rattle.program_state.proofs.SeatLaws.{eqb_other, eqb_same}
use Rattle.monitor_steps.proofs.MonitorMoves.{Moves, count_last, count_more, holds_moved, lists_same}
use Rattle.monitor_steps.proofs.StateMoves.{owners_put, thread_moved, with_status_as}
use Rattle.monitor_steps.proofs.WaitLaws.{owned_not_free, throws_same}

-- ---- lists

pub first_of : (xs : List ℕ) (u : ℕ) → slice_get xs 0 ≡ Some u → (rest : List ℕ) × (xs ≡ u ∷ rest)
first_of [] u e = absurd cc
first_of (x ∷ xs) u e = let same : x ≡ u = cc in (xs, ap (λ n. n ∷ xs) same)

pub none_of : (xs : List ℕ) → slice_get xs 0 ≡ None → xs ≡ []
none_of [] e = refl
none_of (x ∷ xs) e = absurd cc

dropped_other : (v u : ℕ) (xs rest : List ℕ) → xs ≡ u ∷ rest → v ≢ u → count v (drop 1 xs) ≡ count v xs
dropped_other v u xs rest e ne = ap (λ ys. count v (drop 1 ys)) e ∙ sym (count-other v u rest (λ same. ne (sym same))) ∙ ap (count v) (sym e)

dropped_none : (u : ℕ) (xs rest : List ℕ) → xs ≡ u ∷ rest → count u xs ≡ 1 → count u (drop 1 xs) ≡ 0
dropped_none u xs rest e once =
    let n = count-same u rest in
    let m : count u (u ∷ rest) ≡ 1 = ap (count u) (sym e) ∙ once in
    let k : count u rest ≡ 0 = omega (arith, n, m) in
    ap (λ ys. count u (drop 1 ys)) e ∙ k

taken_first : (u : ℕ) (xs rest : List ℕ) → xs ≡ u ∷ rest → take 1 xs ≡ u ∷ []
taken_first u xs rest e = ap (take 1) e

-- ---- who waits on a monitor

spot_waits : (o : ℕ) (status : Status) → status_waits_on o status ≡ is_waiting o (spot_of status)
spot_waits o New = refl
spot_waits o (Live (Waiting p n deadline)) = refl
spot_waits o (Live (Reenter p n wake)) = refl
spot_waits o (Live (Entering p)) = refl
spot_waits o (Live Run) = refl
spot_waits o (Live (Throwing p)) = refl
spot_waits o (Live (Parked deadline)) = refl
spot_waits o (Live (Asleep deadline)) = refl
spot_waits o (Live (Joining p deadline)) = refl
spot_waits o Done = refl

nobody_waits : (o : ℕ) (xs : List JavaThread) → ((u : ℕ) → is_waiting o (spot_at xs u) ≡ false) → list_any (thread_waits_on o) xs ≡ false
nobody_waits o [] each = refl
nobody_waits o (x ∷ xs) each =
    let here : thread_waits_on o x ≡ false = spot_waits o x.thread.status ∙ each 0 in
    let there : list_any (thread_waits_on o) xs ≡ false = nobody_waits o xs (λ u. each (suc u)) in
    ap (λ b. b || list_any (thread_waits_on o) xs) here ∙ there

not_once : (b : Bool) → 0 ≡ once_if b → b ≡ false
not_once true e = absurd cc
not_once false e = refl

must_once : (b : Bool) → 0 < once_if b → b ≡ true
must_once true e = refl
must_once false e = absurd (omega (arith, e))

-- ---- nobody waits

none_notified_lists : (a : ProgramState) (m : Monitors) (o : ℕ) → slice_get (monitor_of a.monitors o).wait_list 0 ≡ None → Becomes a.monitors m o (after_notify (monitor_of a.monitors o)) → HaveSameLists a.monitors m
none_notified_lists a m o none becomes =
    let empty = none_of (monitor_of a.monitors o).wait_list none in
    lists_same a.monitors m o (after_notify (monitor_of a.monitors o)) becomes (ap (drop 1) empty ∙ sym empty)
    (ap (λ xs. (monitor_of a.monitors o).entry_list ++ take 1 xs) empty ∙ append-nil (monitor_of a.monitors o).entry_list)

owner_kept : (old new : Monitors) (o : ℕ) → Becomes old new o (after_notify (monitor_of old o)) → (p : ℕ) → owner_in (monitor_of new p) ≡ owner_in (monitor_of old p)
owner_kept old new o becomes p = by (eqb_tells p o)
  where
    by : ((eqb p o ≡ true) × (p ≡ o)) ⊎ ((eqb p o ≡ false) × (p ≢ o)) → owner_in (monitor_of new p) ≡ owner_in (monitor_of old p)
    by (inl me) = ap (λ n. owner_in (monitor_of new n)) me.1 ∙ ap owner_in becomes.changed ∙ ap (λ n. owner_in (monitor_of old n)) (sym me.1)
    by (inr other) = ap owner_in (becomes.others p other.1)

pub none_notified_first : (a : ProgramState) (m : Monitors) (o : ℕ) → None ≡ slice_get (monitor_of a.monitors o).wait_list 0 → Becomes a.monitors m o (after_notify (monitor_of a.monitors o))
    → m.spare ≡ a.monitors.spare → NotifiesFirst o a (record a { monitors = m }) None
none_notified_first a m o told becomes spare =
    let same = none_notified_lists a m o (sym told) becomes in
    record {
      first = sym told;
      notified = λ r out is.
          record {
            none = nobody_waits o r.threads (λ u. not_once (is_waiting o (spot_at r.threads u)) (ap (count u) (sym (none_of (monitor_of a.monitors o).wait_list (sym told))) ∙ is.monitors.waits u o));
            is = owners_put a m r.owners r out is (record {
              owners_are = λ p. owner_kept a.monitors m o becomes p ∙ is.monitors.owners_are p;
              waits = λ u p. ap (count u) (same.waits p) ∙ is.monitors.waits u p;
              enters = λ u p. ap (count u) (same.enters p) ∙ is.monitors.enters u p;
              places = becomes.threads ∙ is.monitors.places;
            });
          };
      becomes = becomes;
      spare = spare;
    }

-- ---- one thread waits no longer

still_live : (u : ℕ) (out : Bool) (x y : JavaThread) (o : Option (Option Continuation)) → is_live x.thread.status ≡ true → is_live y.thread.status ≡ true → places.is_started y.thread.status ≡ true → y.frames ≡ x.frames
    → IsKept u out (Some x) o → IsKept u out (Some y) o
still_live u out x y o was live started frames (places.absent e f g) = absurd cc
still_live u out x y o was live started frames (places.mounted z e f g s) = places.mounted y e refl g started
still_live u out x y o was live started frames (places.waiting z k e f g l t fs) =
    let same : x ≡ z = cc in places.waiting y k e refl g live t (fs ∙ ap (λ (k : JavaThread). k.frames) (sym same) ∙ sym frames)
still_live u out x y o was live started frames (places.idle z e f g idle) =
    let same : x ≡ z = cc in
    let no : true ≡ false = sym was ∙ ap (λ (k : JavaThread). is_live k.thread.status) same ∙ idle in absurd cc

notify_moves : (a : ProgramState) (u o n : ℕ) (r : State) (out : ℕ → Bool) (x : JavaThread) → IsState a r out → slice_get r.threads u ≡ Some x → spot_of x.thread.status ≡ in_wait_list o
    → slice_get (monitor_of a.monitors o).wait_list 0 ≡ Some u → Moves a.monitors u o x (with_status_as (Live (Reenter o n Notified)) x) (after_notify (monitor_of a.monitors o))
notify_moves a u o n r out x is at there first =
    let ws : List ℕ = (monitor_of a.monitors o).wait_list in
    let es : List ℕ = (monitor_of a.monitors o).entry_list in
    let split = first_of ws u first in
    let spot : spot_at r.threads u ≡ in_wait_list o = ap (λ k. option_map_or (λ (z : JavaThread). spot_of z.thread.status) k absent) at ∙ there in
    let once : count u ws ≡ 1 = is.monitors.waits u o ∙ ap (λ s. once_if (is_waiting o s)) spot ∙ ap once_if (eqb_same o) in
    let none : count u es ≡ 0 = is.monitors.enters u o ∙ ap (λ s. once_if (is_entering o s)) spot in
    record {
      waits = dropped_none u ws split.0 split.1 once;
      enters = ap (λ ys. count u (es ++ ys)) (taken_first u ws split.0 split.1) ∙ count_last u es none ∙ ap once_if (sym (eqb_same o));
      others_wait = λ v ne. dropped_other v u ws split.0 split.1 ne;
      others_enter = λ v ne. ap (λ ys. count v (es ++ ys)) (taken_first u ws split.0 split.1) ∙ count_more v u es ne;
      waits_elsewhere = λ p ne. sym (ap (is_waiting p) there ∙ eqb_other o p (λ e. ne (sym e)));
      enters_elsewhere = λ p ne. eqb_other o p (λ e. ne (sym e)) ∙ ap (is_entering p) (sym there);
    }

row_phase : (a : ProgramState) (r : State) (u : ℕ) (status : Status) (row : Option Thread) → a.threads.threads ≡ map (λ x. x.thread) r.threads → thread_at a.threads u ≡ row
    → option_map (λ (t : Thread). t.status) row ≡ Some status → (x : JavaThread) × (slice_get r.threads u ≡ Some x) × (x.thread.status ≡ status)
row_phase a r u status None rows at e = absurd cc
row_phase a r u status (Some row) rows at e =
    let x = row_back a.threads r u row rows at in
    let same : row.status ≡ status = cc in
    (x.0, x.1, ap (λ (t : Thread). t.status) x.2 ∙ same)

pub thread_notified : (a : ProgramState) (m : Monitors) (new : ProgramState) (o u : ℕ) → Some u ≡ slice_get (monitor_of a.monitors o).wait_list 0 → Becomes a.monitors m o (after_notify (monitor_of a.monitors o))
    → m.spare ≡ a.monitors.spare → IsNotifiedThere u (record a { monitors = m }) new → NotifiesFirst o a new (Some u)
thread_notified a m new o u told becomes spare ended =
    record {
      first = sym told;
      notified = in_state;
      becomes = subst (λ (s : ProgramState). Becomes a.monitors s.monitors o (after_notify (monitor_of a.monitors o))) (sym ended.state) becomes;
      spare = ap (λ (s : ProgramState). s.monitors.spare) ended.state ∙ spare;
    }
  where
    in_state : (r : State) (out : ℕ → Bool) → IsState a r out → WaitEnds o u r out new
    in_state r out is =
        let k : ℕ = ended.monitor in
        let n : ℕ = ended.count in
        let there = row_phase a r u (Live (Waiting k n ended.deadline)) (thread_at a.threads u) is.rows refl ended.waited in
        let x : JavaThread = there.0 in
        let at = there.1 in
        let waits = there.2 in
        let spot : spot_at r.threads u ≡ in_wait_list k = ap (λ z. option_map_or (λ (z : JavaThread). spot_of z.thread.status) z absent) at ∙ ap spot_of waits in
        let held : 0 < count u (monitor_of a.monitors o).wait_list = first-held (monitor_of a.monitors o).wait_list u (sym told) in
        let on : (k == o) ≡ true = must_once (k == o) (subst (λ c. 0 < c) (is.monitors.waits u o ∙ ap (λ s. once_if (is_waiting o s)) spot) held) in
        let same : k ≡ o = eqb-true k o on in
        let status : Status = Live (Reenter k n Notified) in
        let y : JavaThread = with_status_as status x in
        let next : ProgramState = record a { monitors = m; threads = with_status_at a.threads u status; wheel = new.wheel; keys = new.keys } in
        let moves : Moves a.monitors u o x y (after_notify (monitor_of a.monitors o)) =
        subst (λ j. Moves a.monitors u o x (with_status_as (Live (Reenter j n Notified)) x) (after_notify (monitor_of a.monitors o))) (sym same)
        (notify_moves a u o n r out x is at (ap spot_of waits ∙ ap in_wait_list same) (sym told)) in
        let put : IsState next (record r { threads = slice_set r.threads u y }) out =
        thread_moved a m (with_status_at a.threads u status) new.wheel new.keys r.owners r out u x status is at refl
        (holds_moved a.monitors m r.threads r.owners r.owners u o x y (after_notify (monitor_of a.monitors o)) is.monitors at becomes (is.monitors.owners_are o) (λ p ne. refl) moves)
        ended.timer.places (ended.timer.holds (deadlines_of r.now r.threads) is.wheel)
        (still_live u (out u) x y (slice_get a.frozen.items u) (ap is_live waits) refl refl refl) in
        let woken : thread_woken Notified x ≡ y = ap (λ s. record x { thread = record x.thread { status = status_woken Notified s } }) waits in
        record {
          waited = ap (λ z. option_map_or (thread_waits_on o) z false) at ∙ ap (status_waits_on o) waits ∙ on;
          is = subst (λ s. IsState s (with_notified r u) out) (sym ended.state)
              (subst (λ q. IsState next q out) (sym (thread_is r u (thread_woken Notified) x at ∙ ap (λ z. record r { threads = slice_set r.threads u z }) woken)) put);
        }

-- ---- the answers

pub notify_unowned : (t o : ℕ) (a : ProgramState) → owns_in a.monitors t o ≡ false → AnswersSo (asks_notify o) t a a (replies.Throws exceptions.IllegalMonitorStateException)
notify_unowned t o a unowned =
    throws_same (asks_notify o) t o a exceptions.IllegalMonitorStateException
    (λ w r out k is. ap (λ b. if b then none_notified r t k o else raised w r t exceptions.IllegalMonitorStateException) (not_owned a t o false r out is unowned))

pub notify_none : (t o : ℕ) (a new : ProgramState) → owns_in a.monitors t o ≡ true → NotifiesFirst o a new None → AnswersSo (asks_notify o) t a new (replies.Goes outcomes.Done)
notify_none t o a new owned told =
    record {
      monitor = o;
      answers = record {
        first = tt;
        is = λ w r out frames is here at.
            record {
              state = r;
              same = λ k. ap (λ b. if b then none_notified r t k o else raised w r t exceptions.IllegalMonitorStateException) (not_owned a t o true r out is owned)
                  ∙ ap (λ b. if b then None else goes r t k) (told.notified r out is).none;
              is = (told.notified r out is).is;
              runs = at;
              others = λ q others. leaves_others others;
            };
      };
      lists = list_notifies o told.becomes;
    }

pub waiter_there : (o : ℕ) (r : State) (u : ℕ) (row : Option JavaThread) → slice_get r.threads u ≡ row → option_map_or (thread_waits_on o) row false ≡ true
    → (x : JavaThread) × (slice_get r.threads u ≡ Some x) × (thread_waits_on o x ≡ true)
waiter_there o r u None at e = absurd cc
waiter_there o r u (Some x) at e = (x, at, e)

run_waits_not : (o : ℕ) (x : JavaThread) → x.thread.status ≡ Live Run → thread_waits_on o x ≡ true → true ≡ false
run_waits_not o x runs e = sym e ∙ ap (status_waits_on o) runs

-- the thread that notifies isn't the one that waits
other_thread : (o t u : ℕ) (r : State) (frames : List Frame) (x : JavaThread) → IsInPhase r t Run frames → slice_get r.threads u ≡ Some x → thread_waits_on o x ≡ true → t ≢ u
other_thread o t u r frames x at there waits same =
    let two : Some at.thread ≡ Some x = sym at.at ∙ ap (slice_get r.threads) same ∙ there in
    let own : at.thread ≡ x = cc in
    let no : true ≡ false = run_waits_not o x (ap (λ (k : JavaThread). k.thread.status) (sym own) ∙ at.status) waits in absurd cc

notified_other : (o t u : ℕ) (r : State) (x : JavaThread) → slice_get r.threads u ≡ Some x → thread_waits_on o x ≡ true → (v : ℕ)
    → StaysOrIsNotified o (slice_get r.threads v) (slice_get (slice_set r.threads u (thread_woken Notified x)) v)
notified_other o t u r x at waits v = by (eqb_tells v u)
  where
    by : ((eqb v u ≡ true) × (v ≡ u)) ⊎ ((eqb v u ≡ false) × (v ≢ u)) → StaysOrIsNotified o (slice_get r.threads v) (slice_get (slice_set r.threads u (thread_woken Notified x)) v)
    by (inl me) =
        is_notified x (thread_woken Notified x) (ap (slice_get r.threads) me.1 ∙ at)
        (ap (slice_get (slice_set r.threads u (thread_woken Notified x))) me.1 ∙ get_set r.threads u x (thread_woken Notified x) at) waits refl
    by (inr other) = stays (stays_same (slice_get r.threads v) (slice_get (slice_set r.threads u (thread_woken Notified x)) v) (set_other r.threads u v (thread_woken Notified x) other.1))

both_so : (a b : Bool) → a ≡ true → b ≡ true → (a && b) ≡ true
both_so a b e f = ap (λ c. c && b) e ∙ f

notified_goes : (t o u : ℕ) (a new : ProgramState) (w : World) (r : State) (out : ℕ → Bool) (frames : List Frame) → owns_in a.monitors t o ≡ true → WaitEnds o u r out new → IsState a r out → IsInPhase r t Run frames
    → GoesFrom w (asks_notify o) (outcomes.Notifies u) t o frames r out new
notified_goes t o u a new w r out frames owned ends is at =
    let owner = not_owned a t o true r out is owned in
    let there = waiter_there o r u (slice_get r.threads u) refl ends.waited in
    let x : JavaThread = there.0 in
    let y : JavaThread = thread_woken Notified x in
    let next : State = record r { threads = slice_set r.threads u y } in
    let made : with_notified r u ≡ next = thread_is r u (thread_woken Notified) x there.1 in
    record {
      state = next;
      same = λ k. ap (λ b. if b then goes (with_notified r u) t k else None) (both_so (owns r t o) (is_waiting_on r o u) owner ends.waited) ∙ ap (λ s. goes s t k) made;
      is = subst (λ s. IsState new s out) made ends.is;
      runs = record {
        thread = at.thread;
        at = set_other r.threads u t y (other_thread o t u r frames x at there.1 there.2) ∙ at.at;
        status = at.status;
        has = at.has;
      };
      others = λ q others. notifies o (record {
        threads = λ v ne. notified_then o (slice_get r.threads v) (slice_get next.threads v) (slice_get q.threads v) (notified_other o t u r x there.1 there.2 v) (others.threads v ne);
        owners = others.owners;
        now = others.now;
        owned = owned_not_free r t o owner;
      });
    }

pub notify_one : (t o u : ℕ) (a new : ProgramState) → owns_in a.monitors t o ≡ true → NotifiesFirst o a new (Some u) → AnswersSo (asks_notify o) t a new (replies.Goes (outcomes.Notifies u))
notify_one t o u a new owned told =
    record {
      monitor = o;
      answers = record {
        first = told.first;
        is = λ w r out frames is here at. notified_goes t o u a new w r out frames owned (told.notified r out is) is at;
      };
      lists = list_notifies o told.becomes;
    }
