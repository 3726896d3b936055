-- Turns in which time goes on first.
use Rattle.std.proofs.Common.{◌≡◌, ◌⊎◌, inl, inr, ℕ, suc, ◌+◌, ◌<◌, ◌≤◌, Bool, true, false, List, [], ◌∷◌, ◌++◌, length, Option, Some, None, Result, Ok, Err, refl, ap, sym, ◌∙◌, subst, arith, length-append}
use Rattle.std.specs.Prelude.{OnErr, OnOk, is_err, is_none}
use Rattle.std.specs.Option.{option_map_or}
use Rattle.std.proofs.lemmas.Bool.{and_from}
use Rattle.std.proofs.Math.Seq.{append_snoc}
use Rattle.history.specs.declared.entry.Entry.{Entry}
use Rattle.history.specs.declared.entry.What.{What}
use Rattle.history.specs.declared.entry.What.TheVariants.{Clock, Mount, Step, Unmount}
use Rattle.vthread_state.specs.declared.phase.Phase.TheVariants as phases
use Rattle.continuation.specs.Continuation.{Continuation}
use Rattle.schedule_model.specs.Run.{Scheduled}
use Rattle.ref_model.specs.declared.ending.Ending.TheVariants.{Halted, Stalled, Starved}
use Rattle.ref_model.specs.State.{JavaThread, State, with_frames}
use Rattle.ref_model.specs.Ending.{ending}
use Rattle.ref_model.specs.Step.{enabled, is_ready}
use Rattle.ref_model.specs.Looks.{lacks_threads_next, reads_clock_next}
use Rattle.schedule_soundness.specs.ClockLaws.{HasReason, awaited, read, reads_clock_after}
use Rattle.machine.specs.Clocks.{Awaits, AwaitsNothing, IsBefore}
use Rattle.vthread_state.specs.declared.thread.Status.TheVariants.{Live}
use Rattle.machine.specs.Hands.{HasHand, HasPhase, IsLiveIn, MayStep}
use Rattle.machine.specs.Legal.{GoesOn, IsLegal}
use Rattle.machine.specs.Machines.{Given, Known, machine_ending, scheduled, with_ending, with_entry}
use Rattle.carrier_turns.specs.Acts.{IsAct, IsGivenUpWith, StepLacks}
use Rattle.carrier_turns.specs.declared.ask.Turn.{Turn}
use Rattle.carrier_turns.specs.declared.ask.Turn.TheVariants.{Over}
use Rattle.carrier_turns.specs.declared.hand.Hand.{Hand}
use Rattle.carrier_turns.specs.declared.ask.Ask.TheVariants.{Nothing}
use Rattle.invocation.specs.InvocationCache.{AreSelected}
use Rattle.carrier_turns.specs.Hands.{Fits, HasThread}
use Rattle.carrier_turns.specs.LocalRuns.{AreAhead, steps_of}
use Rattle.carrier_turns.specs.Steps.{AnswersUnlessStalled, MayAct, MayGoOn, MountedBy, ran, waits, looks_over, looks_stalled, looks_starved, looks_on}
use Rattle.carrier_turns.specs.Turns as turns
use Rattle.carrier_turns.specs.Turns.{AreActs, HadReason, IsActDue, IsTurn, MayNotStep, MayTick, ReadsInTime, StallsAreTold, StepReads, asked_by, entry_by, goes_no_more, goes_on, is_over, wants_nothing}
use Rattle.carrier_turns.proofs.StallLaws.{goes_more}
use Rattle.carrier_turns.proofs.EndingLaws as endings
use Rattle.carrier_turns.proofs.EndingLaws.{is_scheduled, not_both, room_for, told_ends, told_over}
use Rattle.carrier_turns.proofs.FitLaws.{fits_told, mounted_by}
use Rattle.carrier_turns.proofs.EntryLaws.{first_entry, last_entry}
use Rattle.carrier_turns.proofs.OutlastLaws.{fits_ticked, mounted_ticked, phase_ticked}
use Rattle.carrier_turns.proofs.ReadLaws.{reads_after, reads_lack, reads_runs, reads_still}
use Rattle.carrier_turns.proofs.StepLaws.{held_steps, same_kept}
use Rattle.carrier_turns.proofs.TickLaws as TickLaws
use Rattle.carrier_turns.proofs.TurnLaws.{Kept, looked_keeps, nearer_by_entry, one_longer, over_looked, stopped_turn, told_enabled, told_looked}

-- ---- with no entry of time

no_tick : (c now : ℕ) (what : What) (es : List Entry) → (what ≡ Clock now → ⊥) → (later : List Entry)
    → entry_by c what ∷ es ≡ entry_by c (Clock now) ∷ later → ⊥
no_tick c now what es other later e =
    other (ap (λ (x : Entry). x.what) (first_entry (entry_by c what) (entry_by c (Clock now)) es later e))

-- acts begin with no entry of time
no_time : (c now : ℕ) (es later : List Entry) → AreActs c es → es ≡ entry_by c (Clock now) ∷ later → ⊥
no_time c now es later (turns.none is) e = let bad = sym is ∙ e in cc
no_time c now es later (turns.mount t is) e = no_tick c now (Mount t) [] (λ f. absurd cc) later (sym is ∙ e)
no_time c now es later (turns.unmount t is) e = no_tick c now (Unmount t) [] (λ f. absurd cc) later (sym is ∙ e)
no_time c now es later (turns.step t n pick is) e = no_tick c now (Step t (suc n) pick) [] (λ f. absurd cc) later (sym is ∙ e)
no_time c now es later (turns.last_step t n pick is) e = no_tick c now (Step t (suc n) pick) (entry_by c (Unmount t) ∷ []) (λ f. absurd cc) later (sym is ∙ e)

pub act_turn : (old new : Known) (c now : ℕ) (h g : Hand) (answer : Turn) → AwaitsNothing old now
    → (wants_nothing new.told ≡ true → ReadsInTime old h now) → IsAct old new c now h g answer → IsTurn old new c now h g answer
act_turn old new c now h g answer nothing in_time x =
    record {
      appends = record { entries = x.entries; of_turn = turns.acts x.are_acts; history = x.history; setting = x.setting; carriers = x.carriers };
      reason = λ later is. absurd (no_time c now x.entries later x.are_acts is);
      over = x.over;
      asks = x.asks;
      works = x.works;
      due = λ none fine wants. turns.acts nothing (in_time wants) (x.due wants);
      told = x.told;
      nearer = x.nearer;
    }

-- ---- the clock

-- there was no memory for the entry of time
pub clock_failed : {A E : Type 0} (r : Result A E) (P : Type 0) → OnErr r P → is_err r ≡ true → P
clock_failed (Ok x) P p e = absurd cc
clock_failed (Err x) P p e = p

pub clock_made : {A E : Type 0} (r : Result A E) (P : Type 0) → OnOk r P → is_err r ≡ false → P
clock_made (Ok x) P p e = p
clock_made (Err x) P p e = absurd cc

-- no time is less than 0
pub never_before : (m : Known) → IsLegal m → IsBefore m 0 → ⊥
never_before m x before = let none = before x.after (is_scheduled m x) in omega arith

-- a machine that awaits a time is before it
pub awaits_before : (m : Known) (now : ℕ) → Awaits m now → IsBefore m now
awaits_before m now waits_ = λ v at.
    let a = waits_ v at in
    let to_come = a.due.to_come in
    let reached = a.due.reached in
    omega arith

-- the machine after the entry of time may act
pub ticked_acts : (old mid : Known) (c now : ℕ) (h : Hand) → MayAct old c h → 3 ≤ old.spare → mid ≡ with_entry old c (Clock now) → IsLegal mid → machine_ending mid ≡ None
    → MayAct mid c h
ticked_acts old mid c now h act spare entry legal none = record {
  legal = legal;
  fits = subst (λ m. Fits m c h) (sym entry) (fits_ticked old c now c h act.legal act.going act.fits);
  done = act.done;
  works = act.works;
  going = none;
  spare = subst (λ (m : Known). 2 ≤ m.spare) (sym entry) (omega arith);
}

-- one that runs may step, while the program goes on
running_may : (m : Known) (t : ℕ) → GoesOn m → HasPhase m t phases.Run → MayStep m t
running_may m t goes phase = λ v at.
    let p = phase v at in
    let ready : is_ready v.state p.thread p.thread.thread.status ≡ true = ap (is_ready v.state p.thread) p.status in
    and_from (is_none (ending v.state)) _ (ap is_none (goes.going v at))
    (ap (λ o. option_map_or (λ (x : JavaThread). is_ready v.state x x.thread.status) o false) p.at ∙ ready)

-- ---- a turn at a time for which a thread waits

module _ (old : Known) (c now : ℕ) (h : Hand) where
  abbrev pub ticked : Known
  ticked = with_entry old c (Clock now)

  -- the run has ended with that
  pub due_ends : (mid new : Known) (answer : Turn) → MayAct old c h → Awaits old now → mid ≡ with_entry old c (Clock now) → IsLegal mid
      → AnswersUnlessStalled mid new Nothing answer → answer ≡ Over → IsTurn old new c now h h Over
  due_ends mid new answer act waits_ entry legal look is = record {
    appends = record {
      entries = entry_by c (Clock now) ∷ [];
      of_turn = turns.timed [] (turns.none refl) refl;
      history = history;
      setting = keeps.setting ∙ ap (λ (m : Known). m.setting) entry;
      carriers = keeps.carriers ∙ ap (λ (m : Known). m.carriers) entry;
    };
    reason = λ later is. inl (λ v at. awaited (waits_ v at));
    over = ap is_over (sym is) ∙ over_looked mid new Nothing answer legal look;
    asks = act.done;
    works = λ goes. absurd cc;
    due = λ none fine wants. turns.ends waits_ history (sym (ap is_over (sym is) ∙ over_looked mid new Nothing answer legal look));
    told = λ told. told_looked mid new Nothing answer legal look;
    nearer = λ goes. absurd cc;
  }
    where
      keeps : Kept mid new
      keeps = looked_keeps mid new Nothing answer look

      history : new.history ≡ old.history ++ entry_by c (Clock now) ∷ []
      history = keeps.history ∙ ap (λ (m : Known). m.history) entry

  -- its thread goes on after that
  pub timed_turn : (mid new : Known) (g : Hand) (answer : Turn) → length old.history + 3 ≤ old.setting.limits.events → MayTick old now h → mid ≡ with_entry old c (Clock now)
      → (StallsAreTold old → StallsAreTold mid)
      → (x : IsAct mid new c now h g answer) → HadReason old new c now x.entries → IsTurn old new c now h g answer
  timed_turn mid new g answer room may entry still x reason = record {
    appends = record {
      entries = entry_by c (Clock now) ∷ x.entries;
      of_turn = turns.timed x.entries x.are_acts refl;
      history = history;
      setting = x.setting ∙ ap (λ (m : Known). m.setting) entry;
      carriers = x.carriers ∙ ap (λ (m : Known). m.carriers) entry;
    };
    reason = λ later is. subst (HadReason old new c now) (same_rest is) reason;
    over = x.over;
    asks = x.asks;
    works = x.works;
    due = λ none fine wants. turns.ticks mid may entry (x.due wants);
    told = λ told. x.told (still told);
    nearer = λ goes. nearer_by_entry old new h g (omega arith) (subst (λ (es : List Entry). length old.history < length es) (sym history)
        (one_longer old.history (entry_by c (Clock now)) x.entries)) (x.setting ∙ ap (λ (m : Known). m.setting) entry);
  }
    where
      same_rest : {later : List Entry} → entry_by c (Clock now) ∷ x.entries ≡ entry_by c (Clock now) ∷ later → x.entries ≡ later
      same_rest e = cc

      history : new.history ≡ old.history ++ entry_by c (Clock now) ∷ x.entries
      history =
          x.history ∙ ap (λ (m : Known). m.history ++ x.entries) entry ∙ append_snoc old.history (entry_by c (Clock now)) x.entries

pub due_turn : (old mid new : Known) (c now : ℕ) (h g : Hand) (answer : Turn) → MayAct old c h → Awaits old now → mid ≡ with_entry old c (Clock now)
    → StallsAreTold mid → IsAct mid new c now h g answer → IsTurn old new c now h g answer
due_turn old mid new c now h g answer act waits_ entry told x =
    timed_turn old c now h mid new g answer (room_for old act.legal act.going) (turns.awaited waits_) entry (λ before. told) x (inl (λ v at. awaited (waits_ v at)))

-- ---- a turn whose step reads the clock

-- the entries of a list behind another are told by both
rest_is : {A : Type 0} (xs ys zs : List A) → xs ++ ys ≡ xs ++ zs → ys ≡ zs
rest_is [] ys zs e = e
rest_is (x ∷ xs) ys zs e = rest_is xs ys zs (tail e)
  where
    tail : (x ∷ xs) ++ ys ≡ (x ∷ xs) ++ zs → xs ++ ys ≡ xs ++ zs
    tail e = cc

no_true : (b : Bool) → b ≡ true → b ≡ false → ⊥
no_true b e f = absurd cc

module _ (old mid : Known) (c now : ℕ) (h : Hand) (act : MayAct old c h) (spare : 3 ≤ old.spare) (r : StepReads old h) (later : IsBefore old now)
    (entry : mid ≡ with_entry old c (Clock now)) (goes : GoesOn mid) (legal : IsLegal mid) where
  was : MountedBy old c h r.kept
  was = mounted_by old c h r.kept act r.mounted

  pub is : MountedBy mid c h r.kept
  is = subst (λ m. MountedBy m c h r.kept) (sym entry) (mounted_ticked old c now c h r.kept act.legal act.going was)

  phase_by : MountedBy old c h r.kept → HasPhase old r.kept.thread phases.Run
  phase_by (ran run parts holds owes phase has) = phase
  phase_by (waits parts holds owes not) = λ v at.
      let x = holds v at in
      record { thread = x.thread; at = x.at; status = reads_runs old.setting.world v.state r.kept.thread x.thread r.kept.stack.frames x.at (r.reads v at) }

  -- the thread runs, before and after
  run_phase : HasPhase mid r.kept.thread phases.Run
  run_phase =
      subst (λ m. HasPhase m r.kept.thread phases.Run) (sym entry)
      (phase_ticked old c now c r.kept.thread (steps_of h.local) r.kept.stack.frames act.legal act.going (held_steps old c h r.kept was) (phase_by was))

  pub may_step : MayStep mid r.kept.thread
  may_step = running_may mid r.kept.thread goes run_phase

  pub read_goes : MayGoOn mid c h r.kept.thread
  read_goes = record {
    legal = legal;
    below = subst (λ (m : Known). c < m.carriers) (sym entry) act.fits.below;
    selected = subst (λ (m : Known). AreSelected m.setting.world h.cache) (sym entry) act.fits.selected;
    done = act.done;
    works = act.works;
    going = goes;
    left = subst (λ (m : Known). length m.history + 2 ≤ m.setting.limits.events) (sym entry)
        (let room = room_for old act.legal act.going in omega (arith, length-append old.history (entry_by c (Clock now) ∷ [])));
    spare = subst (λ (m : Known). 2 ≤ m.spare) (sym entry) (omega (arith, spare));
    mounted = record { kept = r.kept; mounted = r.mounted; thread = refl };
    by = is;
    enabled = may_step;
  }

  -- its step reads the clock after that, too
  reads_then : StepReads mid h
  reads_then = record {
    kept = r.kept;
    mounted = r.mounted;
    few = r.few;
    reads = λ w there.
        let last = last_entry old c (Clock now) w (ap scheduled (sym entry) ∙ there) in
        let tick = TickLaws.ticked old.setting last.first last.before w c now last.after in
        let z = run_phase w there in
        let before = held_steps old c h r.kept was last.before last.at in
        subst (λ (m : Known). reads_clock_next m.setting.world (with_frames w.state r.kept.thread r.kept.stack.frames) r.kept.thread ≡ true) (sym entry)
        (reads_still old.setting.world last.before.state w.state now r.kept.thread before.thread z.thread r.kept.stack.frames tick.tick before.at z.at z.status
        (r.reads last.before last.at));
  }

  module _ (new : Known) (g : Hand) (answer : Turn) where
    -- why time went on
    reason : (x : IsAct mid new c now h g answer) → HadReason old new c now x.entries
    reason x = by_told (wants_nothing new.told) refl
      where
        steps_off : (k : Continuation) → h.mounted ≡ Some k → enabled legal.after.state k.thread ≡ false → ⊥
        steps_off k mounted off =
            let w = legal.after in
            no_true (enabled w.state r.kept.thread) (may_step w (is_scheduled mid legal))
            (subst (λ (z : Continuation). enabled w.state z.thread ≡ false) (same_kept k r.kept (sym mounted ∙ r.mounted)) off)

        is_step : (v : Scheduled State) → scheduled old ≡ Some v → IsActDue mid new c now h answer → HasReason old.setting v.state c now x.entries
        is_step v at (turns.puts_down k holds history) = absurd (no_frozen k holds was)
          where
            no_frozen : (k : Continuation) → h.frozen ≡ Some k → MountedBy old c h r.kept → ⊥
            no_frozen k holds (ran run parts held owes phase has) = let e = sym parts.frozen_is ∙ holds in cc
            no_frozen k holds (waits parts held owes not) = let e = sym parts.frozen_is ∙ holds in cc
        is_step v at (turns.takes_up u none history) = absurd (let e = sym none.mounted ∙ r.mounted in cc)
        is_step v at (turns.naps nanos none empty history told nap) = absurd (let e = sym none.mounted ∙ r.mounted in cc)
        is_step v at (turns.freezes k mounted may loose history told) = absurd (steps_off k mounted (may legal.after (is_scheduled mid legal)))
        is_step v at (turns.keeps k nanos mounted held history told nap) = absurd (steps_off k mounted (held legal.after (is_scheduled mid legal)).off)
        is_step v at (turns.steps k n pick rest mounted ahead may unread history owes naps) =
            let after = rest_is mid.history x.entries (entry_by c (Step k.thread (suc n) pick) ∷ rest) (sym x.history ∙ history) in
            let entries : x.entries ≡ entry_by c (Step k.thread (suc n) None) ∷ rest = after ∙ ap (λ u. entry_by c (Step k.thread (suc n) u) ∷ rest) (unread reads_then) in
            let here : k ≡ r.kept = same_kept k r.kept (sym mounted ∙ r.mounted) in
            read k.thread (suc n) rest entries
            (subst (λ (z : Continuation). reads_clock_after old.setting v.state z.thread (suc n) ≡ true) (sym here)
            (reads_after old.setting v c r.kept.thread n r.kept.stack.frames (hand_at v at n ahead) ((endings.going old v at act.going).own) (r.reads v at)))
          where
            hand_at : (v : Scheduled State) → scheduled old ≡ Some v → (n : ℕ) → AreAhead h.local n → HasHand old.setting v c r.kept.thread n r.kept.stack.frames
            hand_at v at n (inl same) = subst (λ i. HasHand old.setting v c r.kept.thread i r.kept.stack.frames) (sym same) (held_steps old c h r.kept was v at)
            hand_at v at n (inr full) = absurd (r.few full)

        by_halt : (new.told ≡ Some Halted) → (x.entries ≡ []) ⊎ (h.mounted ≡ None) → HadReason old new c now x.entries
        by_halt halted (inl none) = inr (halted, none)
        by_halt halted (inr empty) = absurd (let e = sym empty ∙ r.mounted in cc)

        by_stop : IsGivenUpWith new h x.entries ⊎ StepLacks mid h → HadReason old new c now x.entries
        by_stop (inl given) = by_halt given.0 given.1
        by_stop (inr lacks) = inl (λ v at.
            let w = legal.after in
            let there = is_scheduled mid legal in
            let last = last_entry old c (Clock now) w (ap scheduled (sym entry) ∙ there) in
            let tick = TickLaws.ticked old.setting last.first last.before w c now last.after in
            let z = run_phase w there in
            let before = held_steps old c h r.kept was last.before last.at in
            absurd (reads_lack old.setting.world last.before.state w.state now r.kept.thread before.thread z.thread r.kept.stack.frames tick.tick before.at z.at z.status
            (r.reads last.before last.at)
            (subst (λ (y : Continuation). lacks_threads_next old.setting.world (with_frames w.state y.thread y.stack.frames) y.thread ≡ true)
            (same_kept lacks.kept r.kept (sym lacks.mounted ∙ r.mounted))
            (subst (λ (m : Known). lacks_threads_next m.setting.world (with_frames w.state lacks.kept.thread lacks.kept.stack.frames) lacks.kept.thread ≡ true) entry (lacks.lacks w there)))))

        by_told : (b : Bool) → wants_nothing new.told ≡ b → HadReason old new c now x.entries
        by_told true wants = inl (λ v at. is_step v at (x.due wants))
        by_told false wants = by_stop (x.stops wants)

    pub read_turn : IsAct mid new c now h g answer → IsTurn old new c now h g answer
    read_turn x =
        timed_turn old c now h mid new g answer (room_for old act.legal act.going) (turns.reads r later) entry (λ told. told_enabled mid c r.kept.thread (steps_of h.local) r.kept.stack.frames (held_steps mid c h r.kept is) may_step) x (reason x)

-- ---- a look whether the run has ended with that

-- where it hasn't, some thread can go on
pub looked_on : (mid new : Known) (answer : Turn) → AnswersUnlessStalled mid new Nothing answer → (answer ≡ Over → ⊥)
    → (new ≡ mid) × (machine_ending mid ≡ None) × StallsAreTold mid
looked_on mid new answer (looks_over ended same is) on = absurd (on is)
looked_on mid new answer (looks_stalled none same is) on = absurd (on is)
looked_on mid new answer (looks_starved none same is) on = absurd (on is)
looked_on mid new answer (looks_on none goes fed same _) on =
    (same, none, λ v at stops. absurd (no_true (goes_no_more mid.setting.world v) stops (goes_more mid.setting.world v (goes v at) (fed v at))))

-- ---- a run that is given up

-- there was no memory for the entry of time
pub tick_fails : (old mid new : Known) (c now : ℕ) (h : Hand) → MayAct old c h → mid ≡ old → new ≡ with_ending mid Halted → IsTurn old new c now h h Over
tick_fails old mid new c now h act same given =
    subst (λ m. IsTurn old m c now h h Over) (sym (given ∙ ap (λ m. with_ending m Halted) same)) (stopped_turn old old.spare c now h h act.legal act.done)

pub tick_fails_fits : (old mid new : Known) (c : ℕ) (h : Hand) → MayAct old c h → mid ≡ old → new ≡ with_ending mid Halted → Fits new c h
tick_fails_fits old mid new c h act same given =
    subst (λ m. Fits m c h) (sym (given ∙ ap (λ m. with_ending m Halted) same))
    (fits_told old old.spare (Some Halted) c h (λ ended. told_ends old Halted act.legal) act.fits)

-- the run ended when time went on
pub tick_ends_fits : (old mid new : Known) (c now : ℕ) (h : Hand) (answer : Turn) → MayAct old c h → mid ≡ with_entry old c (Clock now) → IsLegal mid
    → AnswersUnlessStalled mid new Nothing answer → Fits new c h
tick_ends_fits old mid new c now h answer act entry legal look = by look
  where
    fits : Fits mid c h
    fits = subst (λ m. Fits m c h) (sym entry) (fits_ticked old c now c h act.legal act.going act.fits)

    by : AnswersUnlessStalled mid new Nothing answer → Fits new c h
    by (looks_over ended same _) = subst (λ m. Fits m c h) (sym same) fits
    by (looks_stalled none same _) =
        subst (λ m. Fits m c h) (sym same) (fits_told mid mid.spare (Some Stalled) c h (λ ended. told_ends mid Stalled legal) fits)
    by (looks_starved none same _) =
        subst (λ m. Fits m c h) (sym same) (fits_told mid mid.spare (Some Starved) c h (λ ended. told_ends mid Starved legal) fits)
    by (looks_on none not fed same _) = subst (λ m. Fits m c h) (sym same) fits

-- ---- a turn without a step

-- a thread that can't step doesn't read the clock
pub off_in_time : (m : Known) (c t now : ℕ) (h : Hand) → MayAct m c h → HasThread h t → MayNotStep m t → ReadsInTime m h now
off_in_time m c t now h act has off r = λ v at.
    let here : r.kept ≡ has.kept = same_kept r.kept has.kept (sym r.mounted ∙ has.mounted) in
    let thread : r.kept.thread ≡ t = ap (λ (k : Continuation). k.thread) here ∙ has.thread in
    let x = held_steps m c h r.kept (mounted_by m c h r.kept act r.mounted) v at in
    let running = reads_runs m.setting.world v.state r.kept.thread x.thread r.kept.stack.frames x.at (r.reads v at) in
    let phase : HasPhase m r.kept.thread phases.Run = phase_at v at x running in
    absurd (no_true (enabled v.state r.kept.thread) (running_may m r.kept.thread (endings.goes_on m act.legal act.going) phase v at)
    (subst (λ u. enabled v.state u ≡ false) (sym thread) (off v at)))
  where
    inner : (v w : Scheduled State) → ◌≡◌ {A = Option (Scheduled State)} (Some v) (Some w) → v ≡ w
    inner v w e = cc

    phase_at : (v : Scheduled State) → scheduled m ≡ Some v → (x : HasHand m.setting v c r.kept.thread (steps_of h.local) r.kept.stack.frames)
        → x.thread.thread.status ≡ Live phases.Run → HasPhase m r.kept.thread phases.Run
    phase_at v at x running = λ w there.
        subst (λ (y : Scheduled State). IsLiveIn y.state r.kept.thread phases.Run) (inner v w (sym at ∙ there)) (record { thread = x.thread; at = x.at; status = running })

-- nor does a hand with no thread mounted
pub none_in_time : (m : Known) (h : Hand) (now : ℕ) → h.mounted ≡ None → ReadsInTime m h now
none_in_time m h now none r = absurd (let e = sym none ∙ r.mounted in cc)
