-- The steps of main in a history are those that it makes alone.
use Rattle.std.proofs.Common.{◌≡◌, ℕ, zero, suc, ◌+◌, Bool, true, false, List, [], ◌∷◌, Option, Some, None, refl, ap, sym, ◌∙◌, ◌&&◌, arith, ◌||◌, subst}
use Rattle.std.specs.Prelude.{is_none, is_some, slice_get, if◌then◌else◌}
use Rattle.std.specs.Option.{option_map_or}
use Rattle.std.proofs.lemmas.Bool.{and_parts}
use Rattle.items.specs.First.{Each}
use Rattle.items.specs.Options.{◌>>=◌}
use Rattle.items.proofs.Binds.{some_is}
use Rattle.history.specs.declared.entry.Entry.{Entry}
use Rattle.history.specs.declared.entry.What.{What}
use Rattle.history.specs.declared.entry.What.TheVariants.{Mount, Unmount, Step, Clock}
use Rattle.history.specs.Java.{java}
use Rattle.vthread_state.specs.declared.phase.Phase.{Phase}
use Rattle.vthread_state.specs.declared.phase.Phase.TheVariants.{Run, Waiting}
use Rattle.vthread_state.specs.declared.thread.Status.{Status}
use Rattle.vthread_state.specs.declared.thread.Status.TheVariants.{New, Live, Done}
use Rattle.schedule_model.specs.Run.{replay, state_after}
use Rattle.schedule_model.proofs.RunLaws.{runs_without_carriers}
use Rattle.ref_model.specs.Setting.{Setting}
use Rattle.ref_model.specs.State.{JavaThread, State, frames_at}
use Rattle.ref_model.specs.Ending.{ending}
use Rattle.ref_model.specs.Opening.{opening}
use Rattle.ref_model.specs.Monitors.{owns}
use Rattle.ref_model.specs.Waiting.{status_waits_on, thread_waits_on, is_waiting_on, with_notified}
use Rattle.ref_model.specs.Requests.{Request, notifies, reads_clock}
use Rattle.ref_model.specs.Asking.{Asking, goes}
use Rattle.ref_model.specs.Requesting.{asked_with}
use Rattle.ref_model.specs.Resuming.{asking_in, asking_at, next_asks}
use Rattle.ref_model.specs.Alone.{needs_others, stepped_alone, alone, is_start}
use Rattle.ref_model.specs.Step.{enabled, picking_step, step}
use Rattle.ref_model.specs.Run.{steps, after_steps}
use Rattle.ref_model.specs.Entries.{is_grouped}
use Rattle.ref_model.specs.Looks.{look_of, machine_from}
use Rattle.ref_model.proofs.StateLaws.{runs}
use Rattle.schedule_soundness.specs.Started.{OnlyMain, was_started}
use Rattle.schedule_soundness.specs.AloneLaws.{MainRunsAlone, steps_of, steps_in, is_tick}
use Rattle.schedule_soundness.proofs.ThreadLists.{same_some}
use Rattle.schedule_soundness.proofs.Steps.{guarded, asks_none, step_moves}
use Rattle.schedule_soundness.proofs.Reached.{grouped_is, inner_state}
use Rattle.schedule_soundness.proofs.MainAlone.{live_started, started_is_main}
use Rattle.schedule_soundness.proofs.OtherMoves.{Fresh, spot_at}
use Rattle.schedule_soundness.proofs.Openings.{Opens, opens}

-- ---- so many steps, from where main is

abbrev pub from : Setting → ℕ → Option State → Option State
from p zero o = o
from p (suc n) o = from p n o >>= stepped_alone p

pub from_opening : (p : Setting) (n : ℕ) → alone p n ≡ from p n (opening p)
from_opening p zero = refl
from_opening p (suc n) = ap (λ o. o >>= stepped_alone p) (from_opening p n)

from_none : (p : Setting) (n : ℕ) → from p n None ≡ None
from_none p zero = refl
from_none p (suc n) = ap (λ o. o >>= stepped_alone p) (from_none p n)

pub from_next : (p : Setting) (n : ℕ) (o : Option State) → from p n (o >>= stepped_alone p) ≡ (from p n o >>= stepped_alone p)
from_next p zero o = refl
from_next p (suc n) o = ap (λ x. x >>= stepped_alone p) (from_next p n o)

pub from_more : (p : Setting) (a b : ℕ) (o : Option State) → from p (a + b) o ≡ from p b (from p a o)
from_more p zero b o = let same : 0 + b ≡ b = omega arith in ap (λ n. from p n o) same
from_more p (suc a) b o =
    let same : suc a + b ≡ suc (a + b) = omega arith in
    ap (λ n. from p n o) same ∙ ap (λ x. x >>= stepped_alone p) (from_more p a b o) ∙ sym (from_next p b (from p a o))

-- ---- one step

pub one_state : (o : Option State) (a b : State) → o ≡ Some a → o ≡ Some b → a ≡ b
one_state o a b e f = cc

-- the state is the same, and main alone was started
pub record Same (p : Setting) (q s : State) : Type 0 where
  pub is : s ≡ q
  pub only : OnlyMain (look_of p.world q)

-- a step that asks for no start starts nobody
pub starts_nobody : (p : Setting) (r q : State) (t : ℕ) (pick : Option ℕ) → step p r t pick ≡ Some q → next_asks p.world r t is_start ≡ false
    → Fresh t r q
starts_nobody p r q t pick e off =
    let l = step_moves p r q t pick e in l.stepped.moves.fresh (asks_none p.world t r q l is_start off)

no_start : (o : Option (Request × Asking)) → option_map_or (λ (x : Request × Asking). needs_others x.0) o false ≡ false
    → option_map_or (λ (x : Request × Asking). is_start x.0) o false ≡ false
no_start None e = refl
no_start (Some x) e = left (is_start x.0) (reads_clock x.0) e
  where
    left : (a b : Bool) → (a || b) ≡ false → a ≡ false
    left true b e = absurd cc
    left false b e = refl

-- where main alone makes a step, it is the step that it makes
alone_step : (p : Setting) (r q s : State) → OnlyMain (look_of p.world r) → step p r 0 None ≡ Some q → stepped_alone p r ≡ Some s → Same p q s
alone_step p r q s only e made =
    by (is_some (ending r)) (goes (ending r) (and_parts (is_none (ending r)) _ (guarded (enabled r 0) _ q e).0).0) made
  where
    goes : {A : Type 0} (o : Option A) → is_none o ≡ true → is_some o ≡ false
    goes None e = refl
    goes (Some x) e = absurd cc

    asks : (b : Bool) → next_asks p.world r 0 needs_others ≡ b → (if b then None else step p r 0 None) ≡ Some s → Same p q s
    asks true off f = absurd cc
    asks false off f =
        record {
          is = one_state (step p r 0 None) s q f e;
          only = λ u ne. starts_nobody p r q 0 None e (no_start (asking_at p.world r 0) off) u ne (only u ne);
        }

    by : (b : Bool) → b ≡ false → (if b then Some r else if next_asks p.world r 0 needs_others then None else step p r 0 None) ≡ Some s
        → Same p q s
    by true over f = absurd cc
    by false over f = asks (next_asks p.world r 0 needs_others) refl f

-- while main alone was started, who steps is main
main_steps : (p : Setting) (r q : State) (t : ℕ) (pick : Option ℕ) → OnlyMain (look_of p.world r) → step p r t pick ≡ Some q → t ≡ 0
main_steps p r q t pick only e =
    let l = step_moves p r q t pick e in
    started_is_main p.world r t only (live_started (slice_get r.threads t) l.thread l.phase l.there l.status)

pub entry_of_main : (p : Setting) (n : ℕ) (r q : State) (t : ℕ) (pick : Option ℕ) → OnlyMain (look_of p.world r) → after_steps p r t (suc n) pick ≡ Some q
    → t ≡ 0
entry_of_main p zero r q t pick only e =
    let x = some_is (steps p zero r t) (λ x. step p x t pick) q e in
    main_steps p r q t pick only (ap (λ y. step p y t pick) (inner_state r x.0 x.1) ∙ x.2)
entry_of_main p (suc n) r q t pick only e =
    let x = some_is (steps p (suc n) r t) (λ x. step p x t pick) q e in entry_of_main p n r x.0 t None only x.1

-- who waits on a monitor is live
waits_live : (o : ℕ) (m : Option JavaThread) → option_map_or (thread_waits_on o) m false ≡ true
    → (x : JavaThread) × (phase : Phase) × (m ≡ Some x) × (x.thread.status ≡ Live phase) × (x.thread.status ≡ Live Run → ⊥)
waits_live o None e = absurd cc
waits_live o (Some x) e = by x.thread.status refl e
  where
    by : (status : Status) → x.thread.status ≡ status → status_waits_on o status ≡ true
        → (y : JavaThread) × (phase : Phase) × (Some x ≡ Some y) × (y.thread.status ≡ Live phase) × (y.thread.status ≡ Live Run → ⊥)
    by New is e = absurd cc
    by Done is e = absurd cc
    by (Live (Waiting p count deadline)) is e =
        (x, Waiting p count deadline, refl, is, λ z. let f : Live (Waiting p count deadline) ≡ Live Run = sym is ∙ z in cc)
    by (Live phase) is e = absurd cc

-- main alone picks nobody, since nobody waits
none_picked : (p : Setting) (r q : State) (u : ℕ) → OnlyMain (look_of p.world r) → step p r 0 (Some u) ≡ Some q → ⊥
none_picked p r q u only e =
    let w = p.world in
    let g = guarded (enabled r 0) (picking_step w r 0 u) q e in
    let x = some_is (asking_at w r 0) (λ x. asked_with r 0 x.1 u x.0) q g.1 in
    let frames = some_is (frames_at r 0) (asking_in w r.memory) x.0 x.1 in
    let h = runs r 0 frames.0 frames.1 in
    picks h.thread h.at h.running x.0.1 x.0.0 x.2
  where
    waits : (me : JavaThread) → slice_get r.threads 0 ≡ Some me → me.thread.status ≡ Live Run → (o : ℕ) → is_waiting_on r o u ≡ true → ⊥
    waits me at run o e =
        let z = waits_live o (slice_get r.threads u) e in
        let main = started_is_main p.world r u only (live_started (slice_get r.threads u) z.0 z.1 z.2 z.3) in
        let same = same_some (slice_get r.threads 0) me z.0 at (ap (slice_get r.threads) (sym main) ∙ z.2) in
        z.4 (ap (λ (y : JavaThread). y.thread.status) (sym same) ∙ run)

    picks : (me : JavaThread) → slice_get r.threads 0 ≡ Some me → me.thread.status ≡ Live Run → (a : Asking) (request : Request)
        → asked_with r 0 a u request ≡ Some q → ⊥
    picks me at run a (notifies o) e =
        let g = guarded (owns r 0 o && is_waiting_on r o u) (goes (with_notified r u) 0 a) q e in
        waits me at run o (and_parts (owns r 0 o) (is_waiting_on r o u) g.0).1
    picks me at run a request e = absurd cc

-- ---- entries

alone_steps : (p : Setting) (n : ℕ) (r q s : State) → OnlyMain (look_of p.world r) → steps p n r 0 ≡ Some q → from p n (Some r) ≡ Some s → Same p q s
alone_steps p zero r q s only e made =
    let same = inner_state r q e in
    record { is = sym (inner_state r s made) ∙ same; only = subst (λ x. OnlyMain (look_of p.world x)) same only }
alone_steps p (suc n) r q s only e made =
    let a = some_is (steps p n r 0) (λ x. step p x 0 None) q e in
    let b = some_is (from p n (Some r)) (stepped_alone p) s made in
    let before = alone_steps p n r a.0 b.0 only a.1 b.1 in
    alone_step p a.0 q s before.only a.2 (ap (stepped_alone p) (sym before.is) ∙ b.2)

last_step : (p : Setting) (r q s : State) (pick : Option ℕ) → OnlyMain (look_of p.world r) → step p r 0 pick ≡ Some q → stepped_alone p r ≡ Some s
    → Same p q s
last_step p r q s None only e made = alone_step p r q s only e made
last_step p r q s (Some u) only e made = absurd (none_picked p r q u only e)

pub alone_entry : (p : Setting) (n : ℕ) (r q s : State) (t : ℕ) (pick : Option ℕ) → OnlyMain (look_of p.world r) → after_steps p r t n pick ≡ Some q
    → from p n (Some r) ≡ Some s → Same p q s
alone_entry p zero r q s t pick only e made = absurd cc
alone_entry p (suc n) r q s t pick only e made =
    let main = entry_of_main p n r q t pick only e in
    let e' : after_steps p r 0 (suc n) pick ≡ Some q = ap (λ u. after_steps p r u (suc n) pick) (sym main) ∙ e in
    let a = some_is (steps p n r 0) (λ x. step p x 0 pick) q e' in
    let b = some_is (from p n (Some r)) (stepped_alone p) s made in
    let before = alone_steps p n r a.0 b.0 only a.1 b.1 in
    last_step p a.0 q s pick before.only a.2 (ap (stepped_alone p) (sym before.is) ∙ b.2)

pub some_from : (p : Setting) (n : ℕ) (o : Option State) (s : State) → from p n o ≡ Some s → (r : State) × (o ≡ Some r)
some_from p n None s e = let z : None ≡ Some s = sym (from_none p n) ∙ e in absurd cc
some_from p n (Some r) s e = (r, refl)

what_alone : (p : Setting) (first r q s : State) (what : What) → OnlyMain (look_of p.world r) → is_tick what ≡ false
    → state_after (machine_from p first) r what ≡ Some q → from p (steps_of what) (Some r) ≡ Some s → Same p q s
what_alone p first r q s (Mount t) only no_tick e made = alone_steps p zero r q s only e made
what_alone p first r q s (Unmount t) only no_tick e made = alone_steps p zero r q s only e made
what_alone p first r q s (Clock now) only no_tick e made = absurd cc
what_alone p first r q s (Step t n pick) only no_tick e made =
    alone_entry p n r q s t pick only (grouped_is (is_grouped p.world r t n) (after_steps p r t n pick) q e).1 made

entries_alone : (p : Setting) (first : State) (es : List Entry) (r q s : State) → OnlyMain (look_of p.world r)
    → Each (λ (e : Entry). is_tick e.what ≡ false) es → replay (machine_from p first) r es ≡ Some q → from p (steps_in es) (Some r) ≡ Some s
    → Same p q s
entries_alone p first [] r q s only no_ticks e made = alone_steps p zero r q s only e made
entries_alone p first (a ∷ es) r q s only no_ticks e made =
    let x = some_is (state_after (machine_from p first) r a.what) (λ x. replay (machine_from p first) x es) q e in
    let split : from p (steps_in es) (from p (steps_of a.what) (Some r)) ≡ Some s =
    sym (from_more p (steps_of a.what) (steps_in es) (Some r)) ∙ made in
    let y = some_from p (steps_in es) (from p (steps_of a.what) (Some r)) s split in
    let here = what_alone p first r x.0 y.0 a.what only no_ticks.0 x.1 y.1 in
    let more : from p (steps_in es) (Some x.0) ≡ Some s =
    ap (λ z. from p (steps_in es) (Some z)) (sym here.is) ∙ ap (from p (steps_in es)) (sym y.1) ∙ split in
    entries_alone p first es x.0 q s here.only no_ticks.1 x.2 more

-- at the opening main alone was started
pub main_opens : (p : Setting) (first : State) → Opens p first → OnlyMain (look_of p.world first)
main_opens p first o zero ne = absurd (ne refl)
main_opens p first o (suc t) ne = ap (λ ts. was_started (spot_at (slice_get ts (suc t)))) o.threads

pub main_runs_alone : MainRunsAlone
main_runs_alone p first carriers history v r begins e no_ticks made =
    let runs = runs_without_carriers (machine_from p first) carriers history v e in
    let moved : from p (steps_in (java history)) (Some first) ≡ Some r =
    ap (from p (steps_in (java history))) (sym begins) ∙ sym (from_opening p (steps_in (java history))) ∙ made in
    let same = entries_alone p first (java history) first v.state r (main_opens p first (opens p first begins)) no_ticks runs moved in
    (same.is, same.only)
