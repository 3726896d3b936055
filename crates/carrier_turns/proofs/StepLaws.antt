-- The step of a mounted thread: what it needs, and what its carrier then needs to put the thread down.
use Rattle.std.proofs.Common.{◌≡◌, ◌+◌, ◌≤◌, ◌==◌, ℕ, Bool, true, false, List, [], ◌∷◌, length, Option, Some, None, slice_get, refl, ap, sym, ◌∙◌, subst, cond, arith, length-append, ◌||◌}
use Rattle.std.specs.Prelude.{is_none, is_some}
use Rattle.std.specs.Option.{option_map_or}
use Rattle.std.proofs.lemmas.Bool.{and_from, and_parts, eq-eqb, or_left}
use Rattle.history.specs.declared.entry.What.TheVariants.{Step}
use Rattle.history.specs.declared.entry.Entry.{Entry}
use Rattle.history.specs.declared.entry.What.{What}
use Rattle.vthread_state.specs.declared.phase.Phase.{Phase}
use Rattle.vthread_state.specs.declared.phase.Phase.TheVariants.{Run, Throwing, Entering, Waiting, Reenter, Parked, Asleep, Joining}
use Rattle.vthread_state.specs.declared.thread.Status.{Status}
use Rattle.vthread_state.specs.declared.thread.Status.TheVariants.{New, Live, Done}
use Rattle.link_model.specs.World.{World}
use Rattle.state_model.specs.Frames.{Frame}
use Rattle.continuation.specs.Continuation.{Continuation}
use Rattle.invocation.specs.InvocationCache.{AreSelected, Kept}
use Rattle.schedule_model.specs.Entries.{came_late, has_mounted, is_last_act}
use Rattle.schedule_model.specs.Look as looks
use Rattle.schedule_model.specs.Look.{Look}
use Rattle.schedule_model.specs.Schedule.{Schedule}
use Rattle.schedule_model.proofs.EntryLaws.{on_there}
use Rattle.ref_model.specs.State.{JavaThread, State, with_frames}
use Rattle.ref_model.specs.Setting.{Setting}
use Rattle.ref_model.specs.Ending.{ending}
use Rattle.ref_model.specs.Enabled.{has_ended, is_done}
use Rattle.ref_model.specs.Step.{is_ready}
use Rattle.ref_model.specs.Looks.{look_of, reads_clock_next, spot_of}
use Rattle.machine.specs.declared.after.After.{After}
use Rattle.machine.specs.declared.after.After.TheVariants.{Goes, Runs, Leaves, Waits, Ends, Halts, ReadsClock}
use Rattle.machine.specs.Hands.{HasEnded, HasPhase, Holds, IsLive, IsLoose, IsMounted, Lives, MayStep, MayUnmount, OwesNothing, OwesUnmount}
use Rattle.machine.specs.Legal.{HasEntryLeft, IsLegal, Works}
use Rattle.machine.specs.Machines.{Given, Known, machine_ending, scheduled, with_entry}
use Rattle.machine.specs.Turns.{HasToRead, IsInTime, IsStepReady, IsStepReadyIn, Steps}
use Rattle.carrier_turns.specs.declared.hand.Hand.{Hand}
use Rattle.carrier_turns.specs.declared.local.LocalRun.{LocalRun}
use Rattle.carrier_turns.specs.LocalRuns.{AreAhead, HasStopped, steps_of, stop_of}
use Rattle.carrier_turns.specs.Hands.{HasParts, HasToLeave, IsInOtherPhase, IsNotRunning}
use Rattle.carrier_turns.specs.Turns.{MayNotStep, ReadsInTime}
use Rattle.carrier_turns.specs.Steps.{HasGone, MayGoOn, MountedBy, NeedsClock, ran, waits}
use Rattle.carrier_turns.proofs.EndingLaws.{going, is_scheduled}
use Rattle.carrier_turns.proofs.EntryLaws.{last_entry, stepped_last}
use Rattle.carrier_turns.proofs.HistoryLaws.{is_program_after}
use Rattle.carrier_turns.proofs.LateLaws.{late_leaves}
use Rattle.carrier_turns.proofs.LocalLaws.{ends_may}

-- ---- before it

same_thread : (x y : JavaThread) → ◌≡◌ {A = Option JavaThread} (Some x) (Some y) → x ≡ y
same_thread x y e = cc

-- local instructions were executed, and fewer than may be
pub ready_ran : (m : Known) (t : ℕ) (run : LocalRun) (frames : List Frame) → HasPhase m t Run → HasStopped m.setting.world run frames
    → (run.steps ≡ 10001 → ⊥) → IsStepReady m t run.steps frames (Some run.next)
ready_ran m t run frames phase has less = λ v at x there.
    let p = phase v at in
    let status : Live Run ≡ x.thread.status = sym p.status ∙ ap (λ (y : JavaThread). y.thread.status) (same_thread p.thread x (sym p.at ∙ there)) in
    let bound = has.few in
    let few : run.steps ≤ 10000 = omega arith in
    subst (IsStepReadyIn m.setting.world run.steps frames (Some run.next)) status (record {
      typed = has.typed;
      few = few;
      last = ends_may m.setting.world run.steps frames (has.ends few);
      fetched = run.next;
      is = refl;
      at = has.next;
    })

-- the thread is in another phase than Run
pub ready_waits : (m : Known) (t : ℕ) (frames : List Frame) → IsNotRunning m t → IsStepReady m t 0 frames None
ready_waits m t frames not = λ v at x there.
    let by : (s : Status) → x.thread.status ≡ s → IsStepReadyIn m.setting.world 0 frames None s =
    λ s is. ready_in m.setting.world frames s (λ runs. off (not v at) x there (is ∙ runs)) in
    by x.thread.status refl
  where
    same_phase : (a : Phase) → Live a ≡ Live Run → a ≡ Run
    same_phase a e = cc

    off : {r : State} → IsInOtherPhase r t → (x : JavaThread) → slice_get r.threads t ≡ Some x → x.thread.status ≡ Live Run → ⊥
    off o x there runs =
        let here : o.live.thread ≡ x = same_thread o.live.thread x (sym o.live.at ∙ there) in
        o.other (same_phase o.phase (sym o.live.status ∙ ap (λ (y : JavaThread). y.thread.status) here ∙ runs))

    ready_in : (w : World) (frames : List Frame) (s : Status) → (s ≡ Live Run → ⊥) → IsStepReadyIn w 0 frames None s
    ready_in w frames New off = (refl, refl)
    ready_in w frames Done off = (refl, refl)
    ready_in w frames (Live Run) off = absurd (off refl)
    ready_in w frames (Live (Throwing o)) off = (refl, refl)
    ready_in w frames (Live (Entering o)) off = (refl, refl)
    ready_in w frames (Live (Waiting o count deadline)) off = (refl, refl)
    ready_in w frames (Live (Reenter o count wake)) off = (refl, refl)
    ready_in w frames (Live (Parked deadline)) off = (refl, refl)
    ready_in w frames (Live (Asleep deadline)) off = (refl, refl)
    ready_in w frames (Live (Joining u deadline)) off = (refl, refl)

pub same_kept : (x y : Continuation) → ◌≡◌ {A = Option Continuation} (Some x) (Some y) → x ≡ y
same_kept x y e = cc

-- the local run in a hand, and the frames after it
pub held_steps : (m : Known) (c : ℕ) (h : Hand) (k : Continuation) → MountedBy m c h k → Holds m c k.thread (steps_of h.local) k.stack.frames
held_steps m c h k (ran run parts holds owes phase has) = subst (λ o. Holds m c k.thread (steps_of o) k.stack.frames) (sym parts.local_is) holds
held_steps m c h k (waits parts holds owes not) = subst (λ o. Holds m c k.thread (steps_of o) k.stack.frames) (sym parts.local_is) holds

pub held_ready : (m : Known) (c : ℕ) (h : Hand) (k : Continuation) → MountedBy m c h k → (steps_of h.local ≡ 10001 → ⊥)
    → IsStepReady m k.thread (steps_of h.local) k.stack.frames (stop_of h.local)
held_ready m c h k (ran run parts holds owes phase has) less =
    subst (λ o. IsStepReady m k.thread (steps_of o) k.stack.frames (stop_of o)) (sym parts.local_is)
    (ready_ran m k.thread run k.stack.frames phase has (λ e. less (ap steps_of parts.local_is ∙ e)))
held_ready m c h k (waits parts holds owes not) less =
    subst (λ o. IsStepReady m k.thread (steps_of o) k.stack.frames (stop_of o)) (sym parts.local_is) (ready_waits m k.thread k.stack.frames not)

pub held_free : (m : Known) (c : ℕ) (h : Hand) (k : Continuation) → MountedBy m c h k → OwesNothing m k.thread
held_free m c h k (ran run parts holds owes phase has) = owes
held_free m c h k (waits parts holds owes not) = owes

-- it is the continuation at hand
pub by_kept : (m : Known) (c : ℕ) (h : Hand) (t : ℕ) (k : Continuation) (may : MayGoOn m c h t) → h.mounted ≡ Some k → MountedBy m c h k
by_kept m c h t k may is = subst (MountedBy m c h) (same_kept may.mounted.kept k (sym may.mounted.mounted ∙ is)) may.by

pub thread_kept : (m : Known) (c : ℕ) (h : Hand) (t : ℕ) (k : Continuation) → MayGoOn m c h t → h.mounted ≡ Some k → k.thread ≡ t
thread_kept m c h t k may is = ap (λ (x : Continuation). x.thread) (same_kept k may.mounted.kept (sym is ∙ may.mounted.mounted)) ∙ may.mounted.thread

-- a machine without an ending works
pub works : (m : Known) → IsLegal m → machine_ending m ≡ None → Works m
works m x none told = absurd (let e = sym (going m x.after (is_scheduled m x) none).told ∙ told in cc)

-- a carrier has the thread mounted
pub is_mounted : (m : Known) (c t n : ℕ) (frames : List Frame) → Holds m c t n frames → IsMounted m t
is_mounted m c t n frames holds = λ v at. on_there v.schedule c t (holds v at).mounted

-- ---- after it

pub has_gone : (after : After) (old new : Known) (c t now n : ℕ) (h g : Hand) (k kept : Continuation) → MayGoOn old c h t → h.mounted ≡ Some k → (after ≡ ReadsClock → ⊥)
    → ((after ≡ Halts → ⊥) → kept.thread ≡ k.thread) → HasParts g (Some kept) h.frozen None h.asked → g.failed ≡ h.failed → AreSelected old.setting.world g.cache
    → AreAhead h.local n → ((steps_of h.local ≡ 10001 → ⊥) → IsInTime after old k.thread now k.stack.frames)
    → Steps after old new c k.thread n now k.stack.frames kept.stack.frames → HasGone after old new c t now h g
has_gone after old new c t now n h g k kept may mounted tried same parts failed selected ahead in_time steps =
    let here = thread_kept old c h t k may mounted in
    record {
      tried = tried;
      was = k;
      had = mounted;
      kept = kept;
      thread = λ made. same made ∙ here;
      parts = record {
        mounted_is = parts.mounted_is;
        frozen_is = parts.frozen_is ∙ frozen_none (by_kept old c h t k may mounted);
        local_is = parts.local_is;
        asked_is = parts.asked_is ∙ may.done;
      };
      works = failed ∙ may.works;
      selected = selected;
      local = n;
      ahead = ahead;
      in_time = in_time;
      steps = subst (λ u. Steps after old new c u n now k.stack.frames kept.stack.frames) here steps;
    }
  where
    frozen_none : MountedBy old c h k → h.frozen ≡ None
    frozen_none (ran run parts holds owes phase has) = parts.frozen_is
    frozen_none (waits parts holds owes not) = parts.frozen_is

-- a step that wasn't made, since it reads the clock
pub needs_clock : (after : After) (old new : Known) (c now n : ℕ) (h g : Hand) (k kept : Continuation) (cache : Kept) → after ≡ ReadsClock → h.mounted ≡ Some k
    → (steps_of h.local ≡ 10001 → ⊥) → Steps after old new c k.thread n now k.stack.frames kept.stack.frames → kept ≡ k → AreSelected old.setting.world cache
    → g ≡ record h { mounted = Some kept; cache = cache } → NeedsClock old new h g now
needs_clock after old new c now n h g k kept cache is mounted few steps stays selected same =
    let reads : HasToRead old new k.thread now k.stack.frames =
    subst (λ a. Steps a old new c k.thread n now k.stack.frames kept.stack.frames) is steps in
    record {
      machine = reads.same;
      cache = cache;
      selected = selected;
      hand = same ∙ ap (λ (o : Option Continuation). record h { mounted = o; cache = cache }) (ap Some stays ∙ sym mounted);
      reads = record { kept = k; mounted = mounted; few = few; reads = reads.reads };
      later = reads.later;
    }

-- ---- a thread that has ended is put down

done_spot : (s : Status) → is_done s ≡ true → looks.is_done (spot_of s) ≡ true
done_spot New e = absurd cc
done_spot (Live phase) e = absurd cc
done_spot Done e = refl

ended_spot : (w : World) (r : State) (t : ℕ) → has_ended r t ≡ true → looks.is_done ((look_of w r).spot t) ≡ true
ended_spot w r t e = by (slice_get r.threads t) e
  where
    by : (o : Option JavaThread) → option_map_or (λ (x : JavaThread). is_done x.thread.status) o false ≡ true
        → looks.is_done (option_map_or (λ (x : JavaThread). spot_of x.thread.status) o looks.absent) ≡ true
    by None e = absurd cc
    by (Some x) e = done_spot x.thread.status e

last_act : (l : Look) (s : Schedule) (c t : ℕ) → looks.is_done (l.spot t) ≡ true → s.last ≡ Some c → is_last_act l s c t ≡ true
last_act l s c t done last =
    subst (λ o. is_last_act l (record s { last = o }) c t ≡ true) (sym last) (and_from (looks.is_done (l.spot t)) (c == c) done (eq-eqb c c refl))

either_way : (b x y : Bool) → x ≡ true → y ≡ true → cond b x y ≡ true
either_way true x y e f = e
either_way false x y e f = f

pub may_retire : (old : Known) (c t n k : ℕ) (pick : Option ℕ) (frames : List Frame) → Holds (with_entry old c (Step t n pick)) c t k frames
    → OwesUnmount (with_entry old c (Step t n pick)) t → HasEnded (with_entry old c (Step t n pick)) t → MayUnmount (with_entry old c (Step t n pick)) c t
may_retire old c t n k pick frames holds owes ended = λ v at.
    let l = look_of old.setting.world v.state in
    let s = v.schedule in
    let entry = last_entry old c (Step t n pick) v at in
    let last = stepped_last old.setting entry.first entry.before v c t n pick entry.after in
    and_from (has_mounted s c t) (cond l.ended (is_last_act l s c t) (s.owes t || came_late l s t)) (holds v at).mounted
    (either_way l.ended (is_last_act l s c t) (s.owes t || came_late l s t) (last_act l s c t (ended_spot old.setting.world v.state t (ended v at)) last)
    (or_left (s.owes t) (came_late l s t) (owes v at)))

-- there is room for one entry more
pub left_after : (old : Known) (c : ℕ) (what : What) → length old.history + 2 ≤ old.setting.limits.events → HasEntryLeft (with_entry old c what)
left_after old c what room = let e : Entry = record { carrier = c; what = what } in omega (arith, length-append old.history (e ∷ []))

-- ---- a thread that may step

-- it is live
pub enabled_lives : (m : Known) (t : ℕ) → MayStep m t → Lives m t
enabled_lives m t may = λ v at. live_by v.state (slice_get v.state.threads t) refl (and_parts (is_none (ending v.state)) _ (may v at)).1
  where
    live_in : (r : State) (x : JavaThread) (s : Status) → slice_get r.threads t ≡ Some x → x.thread.status ≡ s → is_ready r x s ≡ true → IsLive r t
    live_in r x New there is ready = absurd cc
    live_in r x Done there is ready = absurd cc
    live_in r x (Live phase) there is ready = record { phase = phase; live = record { thread = x; at = there; status = is } }

    live_by : (r : State) (o : Option JavaThread) → slice_get r.threads t ≡ o → option_map_or (λ (x : JavaThread). is_ready r x x.thread.status) o false ≡ true
        → IsLive r t
    live_by r None there ready = absurd cc
    live_by r (Some x) there ready = live_in r x x.thread.status there refl ready

-- where it doesn't run after all
pub not_in : (m : Known) (t : ℕ) (phase : Phase) → HasPhase m t phase → (phase ≡ Run → ⊥) → IsNotRunning m t
not_in m t phase has other = λ v at. record { phase = phase; live = has v at; other = other }

-- a mounted thread is live
pub mounted_lives : (m : Known) (c : ℕ) (h : Hand) (k : Continuation) → MountedBy m c h k → Lives m k.thread
mounted_lives m c h k (ran run parts holds owes phase has) = λ v at. record { phase = Run; live = phase v at }
mounted_lives m c h k (waits parts holds owes not) = λ v at. record { phase = (not v at).phase; live = (not v at).live }

-- ---- a thread that can't step

-- its Unmount is allowed, unless it is pinned
pub off_leaves : (m : Known) (c t n : ℕ) (frames : List Frame) → IsLegal m → Holds m c t n frames → OwesNothing m t → IsLoose m t → MayNotStep m t → HasToLeave m c t
off_leaves m c t n frames legal holds owes loose off = λ v at goes.
    let after = is_program_after m v legal at in
    late_leaves m.setting legal.first v c t after (ap is_some goes) (holds v at).mounted (owes v at)
    (loose v at) (off v at)

-- ---- a step that was made, as one that reads the clock

by_kept_in_time : (m : Known) (h : Hand) (now : ℕ) (k : Continuation) → h.mounted ≡ Some k
    → ((steps_of h.local ≡ 10001 → ⊥) → Given m (λ v. reads_clock_next m.setting.world (with_frames v.state k.thread k.stack.frames) k.thread ≡ true → now ≤ v.state.now))
    → ReadsInTime m h now
by_kept_in_time m h now k mounted in_time r = λ v at.
    in_time r.few v at
    (subst (λ (x : Continuation). reads_clock_next m.setting.world (with_frames v.state x.thread x.stack.frames) x.thread ≡ true)
    (same_kept r.kept k (sym r.mounted ∙ mounted)) (r.reads v at))

-- one that goes on, leaves, waits or ends is made in time
pub gone_in_time : (after : After) (old new : Known) (c t now : ℕ) (h g : Hand) → HasGone after old new c t now h g → (after ≡ Halts → ⊥) → ReadsInTime old h now
gone_in_time Goes old new c t now h g gone made r = by_kept_in_time old h now gone.was gone.had (λ few. gone.in_time few) r
gone_in_time Runs old new c t now h g gone made r = by_kept_in_time old h now gone.was gone.had (λ few. gone.in_time few) r
gone_in_time Leaves old new c t now h g gone made r = by_kept_in_time old h now gone.was gone.had (λ few. gone.in_time few) r
gone_in_time Waits old new c t now h g gone made r = by_kept_in_time old h now gone.was gone.had (λ few. gone.in_time few) r
gone_in_time Ends old new c t now h g gone made r = by_kept_in_time old h now gone.was gone.had (λ few. gone.in_time few) r
gone_in_time ReadsClock old new c t now h g gone made r = absurd (gone.tried refl)
gone_in_time Halts old new c t now h g gone made r = absurd (made refl)

pub goes_made : Goes ≡ Halts → ⊥
goes_made e = cc

pub leaves_made : Leaves ≡ Halts → ⊥
leaves_made e = cc

pub ends_made : Ends ≡ Halts → ⊥
ends_made e = cc

pub waits_made : Waits ≡ Halts → ⊥
waits_made e = cc
