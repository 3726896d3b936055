-- A machine after a step that its carrier made, or didn't.
use Rattle.std.proofs.Common.{◌≡◌, ◌<◌, ◌≤◌, ◌-◌, ℕ, suc, true, false, List, [], ◌∷◌, ◌++◌, Option, None, Some, Result, Ok, Err, length, refl, ap, sym, subst, ◌∙◌, arith}
use Rattle.std.specs.Prelude.{IfOk, OnOk}
use Rattle.items.specs.declared.no_memory.NoMemory.{NoMemory}
use Rattle.history.specs.declared.entry.Entry.{Entry}
use Rattle.history.specs.declared.entry.What.{What}
use Rattle.history.specs.declared.entry.What.TheVariants.{Step}
use Rattle.thread_lists.specs.Lists.{Lists}
use Rattle.vthread_state.specs.declared.phase.Phase.TheVariants.{Run}
use Rattle.state_model.specs.Frames.{Frame}
use Rattle.continuation.specs.Continuation.{Continuation}
use Rattle.schedule_model.specs.Run.{Scheduled}
use Rattle.ref_model.specs.declared.ending.Ending.{Ending}
use Rattle.ref_model.specs.declared.ending.Ending.TheVariants.{Limit, Halted}
use Rattle.ref_model.specs.declared.ending.Which.TheVariants.{Threads}
use Rattle.ref_model.specs.Setting.{Setting}
use Rattle.program_state.specs.declared.state.ProgramState.{ProgramState}
use Rattle.machine.specs.declared.after.After.{After}
use Rattle.machine.specs.declared.after.After.TheVariants.{Goes, Runs, Leaves, Ends, Halts}
use Rattle.machine.specs.declared.after.After.TheVariants as afters
use Rattle.machine.specs.declared.made.Attempt.{Attempt}
use Rattle.machine.specs.declared.made.Attempt.TheVariants.{Made, LacksThreads, ReadsClock}
use Rattle.ref_model.specs.State.{State, with_frames}
use Rattle.ref_model.specs.Looks.{lacks_threads_next, reads_clock_next}
use Rattle.ref_model.specs.Enabled.{has_ended}
use Rattle.ref_model.specs.Step.{enabled}
use Rattle.machine.specs.Hands.{HasHand, Holds, IsHeld, IsLive, IsLiveIn, MayStep, OwesNothing}
use Rattle.machine.specs.Legal.{IsCause}
use Rattle.machine.specs.Insides.{IsConsistent}
use Rattle.machine.specs.Machines.{Given, Known, scheduled}
use Rattle.machine.specs.Moves.{StaysIfReading}
use Rattle.machine.specs.Steps.{Enters, IsEntered, IsTold, IsTried}
use Rattle.machine.specs.Turns.{HasStepped, IsInTime, IsOutcome, IsStepReady, Steps, given_up, lacks_threads}
use Rattle.interp_local.specs.declared.fetched.Fetched.{Fetched}
use Rattle.machine.proofs.AheadLaws.{enabled_going}
use Rattle.machine.proofs.EntryLaws.{entry_of, given, goes_on, one_longer, with_one_more}
use Rattle.machine.proofs.NextLaws.{known_of, there}
use Rattle.machine.proofs.StepCallLaws.{steps_from}

same_ending : (a b : Ending) → ◌≡◌ {A = Option Ending} (Some a) (Some b) → a ≡ b
same_ending a b e = cc

-- a step that was made doesn't halt the run
pub on_step : (made : Result (Attempt After) NoMemory) (result : After) (new old : ℕ) (h entries : List Entry) (told tells : Option Ending) (c most : ℕ) (step : What)
    → OnOk made (new ≡ old) → IsEntered made h told c step most entries tells result → (result ≡ Halts → ⊥) → new ≡ old
on_step (Ok (Made a)) result new old h entries told tells c most step same is goes = same
on_step (Ok LacksThreads) result new old h entries told tells c most step same is goes = same
on_step (Ok ReadsClock) result new old h entries told tells c most step same is goes = same
on_step (Err e) result new old h entries told tells c most step same is goes = absurd (goes is.2)

module _ (p : Setting) (n : ℕ) (state : ProgramState) (deques : Lists) (on : List (Option ℕ)) (h : List Entry) (told : Option Ending) (spare : ℕ) (x : IsConsistent p n state deques on h told) where
  module _ (c t k now : ℕ) (frames : List Frame) (next : Option Fetched) (none : told ≡ None) (holds : Holds (known_of p n h spare told) c t k frames)
      (free : OwesNothing (known_of p n h spare told) t) (may : MayStep (known_of p n h spare told) t)
      (ready : IsStepReady (known_of p n h spare told) t k frames next) where
    there_is : scheduled (known_of p n h spare told) ≡ Some x.after
    there_is = there p n state deques on h told spare x

    -- what code says of the step that it made
    abbrev pub HasMade : Result (Attempt After) NoMemory → Option ℕ → ProgramState → Lists → List Frame → Type 0
    HasMade made pick new left after =
        IfOk made (λ o. IsTried p.world n state deques on c t k frames
        (steps_from p n state deques on h told spare x c t k frames next none holds free may ready) now o pick new left after)

    abbrev pub step_entry : Option ℕ → Entry
    step_entry pick = entry_of c (Step t (suc k) pick)

    pub made_kept : (made : Result (Attempt After) NoMemory) (pick : Option ℕ) (new : ProgramState) (left : Lists) (after : List Frame) (entries : List Entry) (tells : Option Ending) (result : After)
        → length h < p.limits.events → HasMade made pick new left after → IsEntered made h told c (Step t (suc k) pick) p.limits.threads entries tells result
        → IsConsistent p n new left on entries tells
    made_kept (Ok (Made a)) pick new left after entries tells result few enters is =
        subst (λ e. IsConsistent p n new left on entries e) (sym (is.1 ∙ none))
        (subst (λ es. IsConsistent p n new left on es None) (sym is.0)
        (with_one_more p n state new deques left on on h told x c (Step t (suc k) pick) enters.then enters.makes few enters.parts))
    made_kept (Ok LacksThreads) pick new left after entries tells result few lacks is =
        subst (λ e. IsConsistent p n new left on entries e) (sym is.1)
        (subst (λ es. IsConsistent p n new left on es (Some (Limit Threads p.limits.threads))) (sym is.0) (record {
          accepted = x.accepted;
          some = x.some;
          first = x.first;
          begins = x.begins;
          after = x.after;
          runs = x.runs;
          few = x.few;
          cause = λ e there. subst (IsCause p x.after) (same_ending (Limit Threads p.limits.threads) e there) (
            refl,
            record {
              carrier = c;
              thread = t;
              local = k;
              frames = frames;
              hand = holds x.after there_is;
              lacks = lacks.lacks;
              going = enabled_going x.after.state t (may x.after there_is);
            },
          );
          parts = λ works. lacks.parts;
        }))
    made_kept (Ok ReadsClock) pick new left after entries tells result few waits is =
        subst (λ e. IsConsistent p n new left on entries e) (sym is.1) (subst (λ es. IsConsistent p n new left on es told) (sym is.0) (record {
          accepted = x.accepted;
          some = x.some;
          first = x.first;
          begins = x.begins;
          after = x.after;
          runs = x.runs;
          few = x.few;
          cause = x.cause;
          parts = λ works. waits.parts;
        }))
    made_kept (Err e) pick new left after entries tells result few nothing is =
        subst (λ e. IsConsistent p n new left on entries e) (sym is.1)
        (subst (λ es. IsConsistent p n new left on es (Some Halted)) (sym is.0) (record {
          accepted = x.accepted;
          some = x.some;
          first = x.first;
          begins = x.begins;
          after = x.after;
          runs = x.runs;
          few = x.few;
          cause = λ e there. subst (IsCause p x.after) (same_ending Halted e there) (enabled_going x.after.state t (may x.after there_is));
          parts = λ works. absurd (works refl);
        }))

    outcome_is : (a : After) (v : Scheduled State) (es : List Entry) (room : ℕ) → IsTold p.world a v t → ((P : Scheduled State → Type 0) → P v → Given (known_of p n es room told) P)
        → IsOutcome a (known_of p n es room told) t
    outcome_is Goes v es room is gives = (gives (λ w. w.schedule.owes t ≡ false) is.0, gives (λ w. enabled w.state t ≡ true) is.1)
    outcome_is Runs v es room is gives = (gives (λ w. w.schedule.owes t ≡ false) is.0, gives (λ w. IsLiveIn w.state t Run) is.1, gives (λ w. enabled w.state t ≡ true) is.2)
    outcome_is Leaves v es room is gives = (gives (λ w. w.schedule.owes t ≡ true) is.0, gives (λ w. IsLive w.state t) is.1)
    outcome_is afters.Waits v es room is gives = (gives (λ w. w.schedule.owes t ≡ false) is.0, gives (λ w. IsHeld p.world w.state t) is.1)
    outcome_is Ends v es room is gives = (gives (λ w. w.schedule.owes t ≡ true) is.0, gives (λ w. has_ended w.state t ≡ true) is.1)
    outcome_is afters.ReadsClock v es room is gives = absurd is
    outcome_is Halts v es room is gives = absurd is

    entered : (a : After) (pick : Option ℕ) (new : ProgramState) (left : Lists) (after : List Frame) (room : ℕ)
        → Enters p.world n state deques on c t k frames (steps_from p n state deques on h told spare x c t k frames next none holds free may ready) now a pick new left after
        → room ≡ spare - 1
        → HasStepped a (known_of p n h spare told) (known_of p n (h ++ step_entry pick ∷ []) room told) c t k frames after
    entered a pick new left after room enters less = record {
      pick = pick;
      unread =
          given (known_of p n h spare told) x.first x.after (λ v. reads_clock_next p.world (with_frames v.state t frames) t ≡ true → pick ≡ None) x.begins x.runs
          enters.unread;
      entry = ap (λ r. known_of p n (h ++ step_entry pick ∷ []) r told) less;
      hand = gives_after (λ v. HasHand p v c t 0 after) enters.hand;
      outcome = outcome_is a enters.then (h ++ step_entry pick ∷ []) room enters.outcome gives_after;
    }
      where
        gives_after : (P : Scheduled State → Type 0) → P enters.then → Given (known_of p n (h ++ step_entry pick ∷ []) room told) P
        gives_after P is =
            given (known_of p n (h ++ step_entry pick ∷ []) room told) x.first enters.then P x.begins
            (goes_on p n state deques on h told x c (Step t (suc k) pick) enters.then enters.makes) is

    as_step : (a : After) (old new : Known) (after : List Frame) (v : Scheduled State) → IsTold p.world a v t → HasStepped a old new c t k frames after → Steps a old new c t k now frames after
    as_step Goes old new after v told is = is
    as_step Runs old new after v told is = is
    as_step Leaves old new after v told is = is
    as_step afters.Waits old new after v told is = is
    as_step Ends old new after v told is = is
    as_step afters.ReadsClock old new after v told is = absurd told
    as_step Halts old new after v told is = absurd told

    pub made_steps : (made : Result (Attempt After) NoMemory) (pick : Option ℕ) (new : ProgramState) (left : Lists) (after : List Frame) (entries : List Entry) (tells : Option Ending)
        (result : After) (room cap : ℕ) → HasMade made pick new left after → IsEntered made h told c (Step t (suc k) pick) p.limits.threads entries tells result
        → room ≡ cap - length entries → spare ≡ cap - length h
        → Steps result (known_of p n h spare told) (known_of p n entries room tells) c t k now frames after
    made_steps (Ok (Made a)) pick new left after entries tells result room cap enters is left_now left_then =
        let longer = one_longer h (step_entry pick) in
        let same = ap (λ es. length es) is.0 in
        let less : room ≡ spare - 1 = omega arith in
        subst (λ e. Steps result (known_of p n h spare told) (known_of p n entries room e) c t k now frames after) (sym is.1)
        (subst (λ es. Steps result (known_of p n h spare told) (known_of p n es room told) c t k now frames after) (sym is.0)
        (subst (λ b. Steps b (known_of p n h spare told) (known_of p n (h ++ step_entry pick ∷ []) room told) c t k now frames after) (sym is.2)
        (as_step a (known_of p n h spare told) (known_of p n (h ++ step_entry pick ∷ []) room told) after enters.then enters.outcome (entered a pick new left after room enters less))))
    made_steps (Ok LacksThreads) pick new left after entries tells result room cap lacks is left_now left_then =
        let same = ap (λ es. length es) is.0 in
        let still : room ≡ spare = omega arith in
        subst (λ b. Steps b (known_of p n h spare told) (known_of p n entries room tells) c t k now frames after) (sym is.2)
        (lacks_threads (ap (λ es. known_of p n es room tells) is.0 ∙ ap (λ r. known_of p n h r tells) still ∙ ap (λ e. known_of p n h spare e) is.1)
        (given (known_of p n h spare told) x.first x.after (λ v. lacks_threads_next p.world (with_frames v.state t frames) t ≡ true) x.begins x.runs lacks.lacks))
    made_steps (Ok ReadsClock) pick new left after entries tells result room cap waits is left_now left_then =
        let same = ap (λ es. length es) is.0 in
        let still : room ≡ spare = omega arith in
        subst (λ b. Steps b (known_of p n h spare told) (known_of p n entries room tells) c t k now frames after) (sym is.2) (record {
          same = ap (λ es. known_of p n es room tells) is.0 ∙ ap (λ r. known_of p n h r tells) still ∙ ap (λ e. known_of p n h spare e) is.1;
          reads = tells_now (λ v. reads_clock_next p.world (with_frames v.state t frames) t ≡ true) waits.reads;
          later = tells_now (λ v. v.state.now < now) waits.later;
        })
      where
        tells_now : (P : Scheduled State → Type 0) → P x.after → Given (known_of p n h spare told) P
        tells_now P is = given (known_of p n h spare told) x.first x.after P x.begins x.runs is
    made_steps (Err e) pick new left after entries tells result room cap nothing is left_now left_then =
        let same = ap (λ es. length es) is.0 in
        let still : room ≡ spare = omega arith in
        subst (λ b. Steps b (known_of p n h spare told) (known_of p n entries room tells) c t k now frames after) (sym is.2)
        (given_up (ap (λ es. known_of p n es room tells) is.0 ∙ ap (λ r. known_of p n h r tells) still ∙ ap (λ e. known_of p n h spare e) is.1))

    -- a step that reads the clock isn't made before this time
    pub made_in_time : (made : Result (Attempt After) NoMemory) (pick : Option ℕ) (new : ProgramState) (left : Lists) (after : List Frame) (entries : List Entry) (tells : Option Ending)
        (result : After) → HasMade made pick new left after → IsEntered made h told c (Step t (suc k) pick) p.limits.threads entries tells result
        → IsInTime result (known_of p n h spare told) t now frames
    made_in_time (Ok (Made a)) pick new left after entries tells result enters is =
        subst (λ b. IsInTime b (known_of p n h spare told) t now frames) (sym is.2) (by a (given (known_of p n h spare told) x.first x.after
        (λ v. reads_clock_next p.world (with_frames v.state t frames) t ≡ true → now ≤ v.state.now) x.begins x.runs enters.in_time))
      where
        by : (a : After) → Given (known_of p n h spare told) (λ v. reads_clock_next p.world (with_frames v.state t frames) t ≡ true → now ≤ v.state.now)
            → IsInTime a (known_of p n h spare told) t now frames
        by Goes is = is
        by Runs is = is
        by Leaves is = is
        by afters.Waits is = is
        by Ends is = is
        by afters.ReadsClock is = tt
        by Halts is = tt
    made_in_time (Ok LacksThreads) pick new left after entries tells result lacks is = subst (λ b. IsInTime b (known_of p n h spare told) t now frames) (sym is.2) tt
    made_in_time (Ok ReadsClock) pick new left after entries tells result waits is = subst (λ b. IsInTime b (known_of p n h spare told) t now frames) (sym is.2) tt
    made_in_time (Err e) pick new left after entries tells result nothing is = subst (λ b. IsInTime b (known_of p n h spare told) t now frames) (sym is.2) tt

    -- what is mounted stays where the step isn't made since it reads the clock
    pub made_stays : (made : Result (Attempt After) NoMemory) (pick : Option ℕ) (new : ProgramState) (left : Lists) (after : List Frame) (entries : List Entry) (tells : Option Ending)
        (result : After) (was is_ : Continuation) → HasMade made pick new left after → IsEntered made h told c (Step t (suc k) pick) p.limits.threads entries tells result
        → IfOk made (λ tried. StaysIfReading tried was is_) → result ≡ afters.ReadsClock → is_ ≡ was
    made_stays (Ok (Made a)) pick new left after entries tells result was is_ enters is stays reads = absurd (by a enters.then (sym is.2 ∙ reads) enters.outcome)
      where
        by : (a : After) (v : Scheduled State) → a ≡ afters.ReadsClock → IsTold p.world a v t → ⊥
        by Goes v e is = absurd cc
        by Runs v e is = absurd cc
        by Leaves v e is = absurd cc
        by afters.Waits v e is = absurd cc
        by Ends v e is = absurd cc
        by afters.ReadsClock v e is = is
        by Halts v e is = is
    made_stays (Ok LacksThreads) pick new left after entries tells result was is_ lacks is stays reads = let bad : Halts ≡ afters.ReadsClock = sym is.2 ∙ reads in absurd cc
    made_stays (Ok ReadsClock) pick new left after entries tells result was is_ waits is stays reads = stays
    made_stays (Err e) pick new left after entries tells result was is_ nothing is stays reads = let bad : Halts ≡ afters.ReadsClock = sym is.2 ∙ reads in absurd cc
