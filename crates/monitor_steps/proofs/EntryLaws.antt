-- Threads that take a monitor or line up for it.
use Rattle.std.proofs.Common.{◌≡◌, ◌+◌, ◌≤◌, ◌==◌, ◌++◌, arith, ℕ, Bool, true, false, not, List, [], ◌∷◌, Option, Some, None, refl, ap, sym, subst, ◌∙◌}
use Rattle.std.specs.Prelude.{if◌then◌else◌, is_none, slice_get}
use Rattle.std.specs.Option.{option_map, option_map_or}
use Rattle.std.proofs.lemmas.Bool.{eqb-true}
use Rattle.thread_lists.specs.Lists.{count}
use Rattle.thread_lists.proofs.CountLaws.{count-without}
use Rattle.vthread_state.specs.declared.phase.Phase.{Phase}
use Rattle.vthread_state.specs.declared.phase.Phase.TheVariants.{Run, Entering, Reenter}
use Rattle.vthread_state.specs.declared.thread.Status.{Status}
use Rattle.vthread_state.specs.declared.thread.Status.TheVariants.{Live}
use Rattle.vthread_state.specs.declared.thread.Thread.{Thread}
use Rattle.vthread_state.specs.Threads.{Threads, status_at, thread_at, with_status as with_status_at}
use Rattle.state_model.specs.Frames.{Frame}
use Rattle.schedule_model.specs.Look.{absent, in_entry_list, is_entering, is_waiting}
use Rattle.schedule_model.specs.Woken.{once_if}
use Rattle.monitors.specs.declared.monitors.Enter.{Enter}
use Rattle.monitors.specs.declared.monitors.Enter.TheVariants as answers
use Rattle.monitors.specs.Monitors.{Becomes, IsInLine, Monitor, Monitors, after_enter, after_line_up, after_retake, is_taken, monitor_of}
use Rattle.ref_model.specs.Looks.{phase_deadline, deadline_in, spot_in as spot_in_phase, spot_of}
use Rattle.ref_model.specs.Monitors.{entered_once, is_open_to, may_take}
use Rattle.ref_model.specs.Resuming.{is_first_entry}
use Rattle.ref_model.specs.State.{JavaThread, Owner, State, with_owner}
use Rattle.program_state.specs.declared.state.ProgramState.{ProgramState}
use Rattle.program_state.specs.Monitors.{AreSeated, ListsMove, lines_up, retakes, spot_at, spot_in, stay}
use Rattle.program_state.specs.States.{IsState}
use Rattle.program_state.proofs.StateLaws.{thread_is}
use Rattle.monitor_steps.specs.declared.line.AfterEntry.TheVariants as entries
use Rattle.monitor_steps.specs.declared.line.Line.{Line}
use Rattle.monitor_steps.specs.Entries.{EntersTo, TakesTo, after_wake, line_in}
use Rattle.program_state.proofs.SeatLaws.{eqb_other, eqb_same}
use Rattle.monitor_steps.proofs.MonitorMoves.{Moves, count_last, count_left, count_more, holds_moved, holds_owner, lists_same, owner_at, owner_elsewhere}
use Rattle.monitor_steps.proofs.StateMoves.{out_moved, owners_put, with_status_as}

-- ---- room was made before

pub after_room : (a b new : Monitors) (o : ℕ) (m : Monitor) → ((p : ℕ) → monitor_of b p ≡ monitor_of a p) → b.threads ≡ a.threads → a.spare ≤ b.spare → Becomes b new o m → Becomes a new o m
after_room a b new o m same threads spare becomes = record {
  changed = becomes.changed;
  others = λ p ne. becomes.others p ne ∙ same p;
  threads = becomes.threads ∙ threads;
  spare = let s = becomes.spare in omega (arith, s, spare);
}

-- ---- a thread that runs enters

not_taken : (b : Bool) → not b ≡ false → b ≡ true
not_taken true e = refl
not_taken false e = absurd cc

entered_is : (t : ℕ) (owner : Option ℕ) (count : ℕ) → is_taken owner t ≡ false → (owner ≡ None → count ≡ 0)
    → ◌≡◌ {A = Option Owner} (Some (record { thread = t; count = count + 1 })) (Some (entered_once t (option_map (λ u. record { thread = u; count = count }) owner)))
entered_is t None count free none = ap (λ c. Some (record { thread = t; count = c + 1 })) (none refl)
entered_is t (Some u) count free none = ap (λ n. Some (record { thread = n; count = count + 1 })) (sym (eqb-true u t (not_taken (u == t) free)))

open_is : (t : ℕ) (owner : Option ℕ) (count : ℕ) → is_open_to t (option_map (λ u. record { thread = u; count = count }) owner) ≡ not (is_taken owner t)
open_is t None count = refl
open_is t (Some u) count = by (u == t)
  where
    by : (b : Bool) → b ≡ not (not b)
    by true = refl
    by false = refl

may_is : (a : ProgramState) (t o : ℕ) (r : State) (out : ℕ → Bool) (taken : Bool) → IsState a r out → is_taken (monitor_of a.monitors o).owner t ≡ taken → may_take r t o ≡ not taken
may_is a t o r out taken is e =
    let m : Monitor = monitor_of a.monitors o in
    ap (is_open_to t) (sym (is.monitors.owners_are o)) ∙ open_is t m.owner m.count ∙ ap not e

entered_once_more : (t : ℕ) (m : Monitor) → is_taken m.owner t ≡ false → after_enter t m ≡ record m { owner = Some t; count = m.count + 1 }
entered_once_more t m free = ap (λ b. if b then record m { entry_list = m.entry_list ++ t ∷ [] } else record m { owner = Some t; count = m.count + 1 }) free

pub lined_up : (t : ℕ) (m : Monitor) → is_taken m.owner t ≡ true → after_enter t m ≡ after_line_up t m
lined_up t m taken = ap (λ b. if b then record m { entry_list = m.entry_list ++ t ∷ [] } else record m { owner = Some t; count = m.count + 1 }) taken

becomes_as : (old new : Monitors) (o : ℕ) (m m' : Monitor) → m ≡ m' → Becomes old new o m → Becomes old new o m'
becomes_as old new o m m' same becomes = subst (Becomes old new o) same becomes

pub taken_lists : (old new : Monitors) (t o : ℕ) → is_taken (monitor_of old o).owner t ≡ false → Becomes old new o (after_enter t (monitor_of old o)) → ListsMove old new
taken_lists old new t o free becomes =
    let m : Monitor = monitor_of old o in
    stay (lists_same old new o (record m { owner = Some t; count = m.count + 1 }) (becomes_as old new o _ _ (entered_once_more t m free) becomes) refl refl)

pub blocked_lists : (old new : Monitors) (t o : ℕ) → is_taken (monitor_of old o).owner t ≡ true → Becomes old new o (after_enter t (monitor_of old o)) → ListsMove old new
blocked_lists old new t o taken becomes = lines_up t o (becomes_as old new o _ _ (lined_up t (monitor_of old o) taken) becomes)

pub monitor_taken : (a : ProgramState) (m : Monitors) (t o : ℕ) → is_taken (monitor_of a.monitors o).owner t ≡ false → ((monitor_of a.monitors o).owner ≡ None → (monitor_of a.monitors o).count ≡ 0)
    → Becomes a.monitors m o (after_enter t (monitor_of a.monitors o)) → EntersTo t o a (record a { monitors = m }) true
monitor_taken a m t o free none becomes r out frames is here at =
    let old : Monitor = monitor_of a.monitors o in
    record {
      may = may_is a t o r out false is free;
      is = owners_put a m (λ p. if p == o then Some (entered_once t (r.owners o)) else r.owners p) r out is
          (holds_owner a.monitors m r.threads r.owners o (record old { owner = Some t; count = old.count + 1 }) (Some (entered_once t (r.owners o))) is.monitors
          (becomes_as a.monitors m o _ _ (entered_once_more t old free) becomes) refl refl
          (entered_is t old.owner old.count free none ∙ ap (λ w. Some (entered_once t w)) (is.monitors.owners_are o)));
    }

-- ---- where a thread is

pub spot_had : (r : State) (t : ℕ) (x : JavaThread) (status : Status) → slice_get r.threads t ≡ Some x → x.thread.status ≡ status → spot_at r.threads t ≡ spot_of status
spot_had r t x status at e = ap (λ o. option_map_or (λ (z : JavaThread). spot_of z.thread.status) o absent) at ∙ ap spot_of e

-- A thread that isn't in the lists of a monitor is in line for it.
line_moves : (a : ProgramState) (t o : ℕ) (r : State) (out : ℕ → Bool) (x : JavaThread) → IsState a r out → slice_get r.threads t ≡ Some x → x.thread.status ≡ Live Run
    → Moves a.monitors t o x (with_status_as (Live (Entering o)) x) (after_line_up t (monitor_of a.monitors o))
line_moves a t o r out x is at runs =
    let spot = spot_had r t x (Live Run) at runs in
    record {
      waits = is.monitors.waits t o ∙ ap (λ s. once_if (is_waiting o s)) spot;
      enters = count_last t (monitor_of a.monitors o).entry_list (is.monitors.enters t o ∙ ap (λ s. once_if (is_entering o s)) spot) ∙ ap once_if (sym (eqb_same o));
      others_wait = λ u ne. refl;
      others_enter = λ u ne. count_more u t (monitor_of a.monitors o).entry_list ne;
      waits_elsewhere = λ p ne. ap (λ s. is_waiting p (spot_of s)) (sym runs);
      enters_elsewhere = λ p ne. eqb_other o p (λ e. ne (sym e)) ∙ ap (λ s. is_entering p (spot_of s)) (sym runs);
    }

pub monitor_lined_up : (a : ProgramState) (m : Monitors) (table : Threads) (t o : ℕ) → is_taken (monitor_of a.monitors o).owner t ≡ true
    → Becomes a.monitors m o (after_enter t (monitor_of a.monitors o)) → table ≡ with_status_at a.threads t (Live (Entering o)) → EntersTo t o a (record a { monitors = m; threads = table }) false
monitor_lined_up a m table t o taken becomes set r out frames is here at =
    let x : JavaThread = at.thread in
    let old : Monitor = monitor_of a.monitors o in
    let y : JavaThread = with_status_as (Live (Entering o)) x in
    let new : ProgramState = record a { monitors = m; threads = table } in
    record {
      may_not = may_is a t o r out true is taken;
      is = subst (λ q. IsState new q out) (sym (thread_is r t (with_status_as (Live (Entering o))) x at.at))
          (out_moved a m table r.owners r out t x (Live (Entering o)) is at.at here set refl (ap deadline_in (sym at.status))
          (holds_moved a.monitors m r.threads r.owners r.owners t o x y (after_line_up t old) is.monitors at.at (becomes_as a.monitors m o _ _ (lined_up t old taken) becomes)
          (is.monitors.owners_are o) (λ p ne. refl) (line_moves a t o r out x is at.at at.status)));
    }

-- ---- a thread that is in line

pub line_spot : (phase : Phase) (frames : List Frame) (line : Line) → line_in phase frames ≡ Some line → spot_in_phase phase ≡ in_entry_list line.monitor
line_spot (Entering o) frames line e =
    let lined : Line = record { monitor = o; count = 1; then_goes = if is_first_entry o frames then entries.Begins else entries.Resumes } in
    let same : lined ≡ line = cc in ap (λ (l : Line). in_entry_list l.monitor) same
line_spot (Reenter o n wake) frames line e =
    let lined : Line = record { monitor = o; count = n; then_goes = after_wake wake } in
    let same : lined ≡ line = cc in ap (λ (l : Line). in_entry_list l.monitor) same
line_spot phase frames line e = absurd cc

pub line_timeless : (phase : Phase) (frames : List Frame) (line : Line) → line_in phase frames ≡ Some line → phase_deadline phase ≡ None
line_timeless (Entering o) frames line e = refl
line_timeless (Reenter o n wake) frames line e = refl
line_timeless phase frames line e = absurd cc

in_line_by : (all : Monitors) (table : Threads) (t o : ℕ) (phase : Phase) → AreSeated all table → (row : Option Thread) → thread_at table t ≡ row → option_map (λ (x : Thread). x.status) row ≡ Some (Live phase)
    → spot_in_phase phase ≡ in_entry_list o → IsInLine t (monitor_of all o)
in_line_by all table t o phase seated None at e spot = absurd cc
in_line_by all table t o phase seated (Some x) at e spot =
    let same : x.status ≡ Live phase = cc in
    let here : spot_in table t ≡ in_entry_list o = ap (λ k. option_map_or (λ (z : Thread). spot_of z.status) k absent) at ∙ ap spot_of same ∙ spot in
    let one : count t (monitor_of all o).entry_list ≡ 1 = seated.enters t o ∙ ap (λ s. once_if (is_entering o s)) here ∙ ap once_if (eqb_same o) in
    omega (arith, one)

pub in_line : (all : Monitors) (table : Threads) (t : ℕ) (phase : Phase) (frames : List Frame) (line : Line) → AreSeated all table → status_at table t ≡ Some (Live phase) → line_in phase frames ≡ Some line
    → IsInLine t (monitor_of all line.monitor)
in_line all table t phase frames line seated e lined = in_line_by all table t line.monitor phase seated (thread_at table t) refl e (line_spot phase frames line lined)

retake_moves : (a : ProgramState) (t o n : ℕ) (r : State) (out : ℕ → Bool) (x : JavaThread) → IsState a r out → slice_get r.threads t ≡ Some x → spot_of x.thread.status ≡ in_entry_list o
    → Moves a.monitors t o x (with_status_as (Live Run) x) (after_retake t n (monitor_of a.monitors o))
retake_moves a t o n r out x is at there =
    let spot : spot_at r.threads t ≡ in_entry_list o = ap (λ k. option_map_or (λ (z : JavaThread). spot_of z.thread.status) k absent) at ∙ there in
    record {
      waits = is.monitors.waits t o ∙ ap (λ s. once_if (is_waiting o s)) spot;
      enters = count-without t (monitor_of a.monitors o).entry_list;
      others_wait = λ u ne. refl;
      others_enter = λ u ne. count_left u t (monitor_of a.monitors o).entry_list ne;
      waits_elsewhere = λ p ne. ap (is_waiting p) (sym there);
      enters_elsewhere = λ p ne. sym (ap (is_entering p) there ∙ eqb_other o p (λ e. ne (sym e)));
    }

nobody : (owner : Option ℕ) → is_none owner ≡ true → owner ≡ None
nobody None e = refl
nobody (Some u) e = absurd cc

pub line_taken : (a : ProgramState) (m : Monitors) (table : Threads) (t : ℕ) (line : Line) → is_none (monitor_of a.monitors line.monitor).owner ≡ true
    → Becomes a.monitors m line.monitor (after_retake t line.count (monitor_of a.monitors line.monitor)) → table ≡ with_status_at a.threads t (Live Run)
    → TakesTo t line a (record a { monitors = m; threads = table })
line_taken a m table t line free becomes set r out phase frames is here at lined =
    let x : JavaThread = at.thread in
    let o : ℕ = line.monitor in
    let old : Monitor = monitor_of a.monitors o in
    let y : JavaThread = with_status_as (Live Run) x in
    let new : ProgramState = record a { monitors = m; threads = table } in
    let owner : Option Owner = Some (record { thread = t; count = line.count }) in
    let there : spot_of x.thread.status ≡ in_entry_list o = ap spot_of at.status ∙ line_spot phase frames line lined in
    record {
      free = sym (is.monitors.owners_are o) ∙ ap (option_map (λ u. record { thread = u; count = old.count })) (nobody old.owner free);
      is = subst (λ q. IsState new q out) (sym (thread_is (with_owner r o owner) t (with_status_as (Live Run)) x at.at))
          (out_moved a m table (λ p. if p == o then owner else r.owners p) r out t x (Live Run) is at.at here set refl
          (sym (ap deadline_in at.status ∙ line_timeless phase frames line lined))
          (holds_moved a.monitors m r.threads r.owners (λ p. if p == o then owner else r.owners p) t o x y (after_retake t line.count old) is.monitors at.at becomes
          (sym (owner_at r.owners o owner)) (λ p ne. owner_elsewhere r.owners p o owner ne) (retake_moves a t o line.count r out x is at.at there)));
    }

pub retaken_lists : (old new : Monitors) (t : ℕ) (line : Line) → Becomes old new line.monitor (after_retake t line.count (monitor_of old line.monitor)) → ListsMove old new
retaken_lists old new t line becomes = retakes t line.monitor line.count becomes

-- ---- what entering answers

got_by : (taken : Bool) (result : Enter) → result ≡ (if taken then answers.Blocked else answers.Got) → result ≡ answers.Got → taken ≡ false
got_by true result told got = absurd cc
got_by false result told got = refl

blocked_by : (taken : Bool) (result : Enter) → result ≡ (if taken then answers.Blocked else answers.Got) → result ≡ answers.Blocked → taken ≡ true
blocked_by true result told got = refl
blocked_by false result told got = absurd cc

pub got_is : (m n : Monitor) (t : ℕ) (result : Enter) → m ≡ n → result ≡ (if is_taken m.owner t then answers.Blocked else answers.Got) → result ≡ answers.Got → is_taken n.owner t ≡ false
got_is m n t result same told got = ap (λ (k : Monitor). is_taken k.owner t) (sym same) ∙ got_by (is_taken m.owner t) result told got

pub blocked_is : (m n : Monitor) (t : ℕ) (result : Enter) → m ≡ n → result ≡ (if is_taken m.owner t then answers.Blocked else answers.Got) → result ≡ answers.Blocked → is_taken n.owner t ≡ true
blocked_is m n t result same told got = ap (λ (k : Monitor). is_taken k.owner t) (sym same) ∙ blocked_by (is_taken m.owner t) result told got
