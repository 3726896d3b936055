-- A step that code made, as an entry.
use Rattle.std.proofs.Common.{◌≡◌, ◌<◌, ◌≤◌, ◌++◌, ℕ, Bool, true, false, List, [], ◌∷◌, Option, None, Some, length, refl, ap, sym, subst, ◌∙◌, arith}
use Rattle.std.specs.Prelude.{Err, IfOk, Ok, Result, is_none, nat_lt}
use Rattle.std.specs.Option.{option_map_or}
use Rattle.std.proofs.lemmas.Bool.{and_from}
use Rattle.std.proofs.lemmas.Option.{slice_get_within}
use Rattle.std.proofs.lemmas.Result.{IfOk-weaker}
use Rattle.items.specs.declared.no_memory.NoMemory.{NoMemory}
use Rattle.history.specs.declared.entry.Entry.{Entry}
use Rattle.history.specs.declared.entry.What.{What}
use Rattle.thread_lists.specs.Lists.{Lists, count, total}
use Rattle.vthread_state.specs.declared.phase.Phase.TheVariants.{Run}
use Rattle.vthread_state.specs.Threads.{Threads, phase_at}
use Rattle.link_model.specs.World.{World}
use Rattle.state_model.specs.Frames.{Frame}
use Rattle.continuation.specs.Continuation.{Continuation}
use Rattle.ref_model.specs.declared.ending.Ending.{Ending}
use Rattle.ref_model.specs.State.{JavaThread, State, with_frames}
use Rattle.ref_model.specs.Enabled.{has_ended, is_ready}
use Rattle.ref_model.specs.Ending.{ending}
use Rattle.ref_model.specs.Looks.{pins_of, reads_clock_next}
use Rattle.ref_model.specs.Step.{enabled}
use Rattle.program_state.specs.declared.state.ProgramState.{ProgramState}
use Rattle.program_state.specs.Monitors.{AreSeated}
use Rattle.program_state.specs.Running.{Stays}
use Rattle.program_state.specs.States.{HasFrames, IsState}
use Rattle.machine.specs.declared.after.After.{After}
use Rattle.machine.specs.declared.after.After.TheVariants.{Runs}
use Rattle.machine.specs.declared.made.Attempt.{Attempt}
use Rattle.machine.specs.declared.made.Attempt.TheVariants.{Made, LacksThreads, ReadsClock}
use Rattle.machine.specs.declared.made.Move.{Move}
use Rattle.machine.specs.declared.made.StepResult.{StepResult}
use Rattle.machine.specs.Insides.{AreParts, is_out}
use Rattle.machine.specs.Moves.{IsInTime, IsMoved, LacksRoom, Moves, MovesAtAnyTime, ReadsFirst, StaysIfReading, alone, picked}
use Rattle.machine.specs.declared.made.Others.{Others}
use Rattle.machine.specs.declared.made.Others.TheVariants as moves
use Rattle.machine.specs.Puts.{HasPut, IsTouched}
use Rattle.machine.specs.Steps.{Becomes, Enters, IsConcluded, IsEntered, IsPicking, IsTold, IsTried, IsTriedSo, Lacks, StepsFrom, WaitsForClock, outcome_of, picked_by, told_of}
use Rattle.program_state.proofs.MonitorLaws.{seated}
use Rattle.machine.proofs.AheadLaws.{enabled_alive}
use Rattle.machine.proofs.EntryLaws.{is_scheduled}
use Rattle.machine.proofs.MoveLaws.{reads_none}
use Rattle.machine.proofs.OutcomeLaws.{goes_by}
use Rattle.machine.proofs.PlaceLaws.{mounted_within}
use Rattle.machine.proofs.PutFacts.{put_nobody}
use Rattle.machine.proofs.StateLaws.{rows_length, status_is}
use Rattle.machine.proofs.StepLaws.{ahead_has, ahead_is, ahead_out, ended_in, start_free, step_enters, touched, then, then_hand, then_outcome, then_parts}

module _ (w : World) (n : ℕ) (state : ProgramState) (deques : Lists) (on : List (Option ℕ)) (c t k : ℕ) (frames : List Frame) (x : StepsFrom w n state deques on c t k frames) where
  pub step_carrier : c < length deques.lists
  step_carrier =
      let sizes = (is_scheduled x.setting x.first x.before x.after).sizes in
      let lists = ap (λ ls. length ls) x.parts.deques in
      let inside = mounted_within x.before.schedule c t x.hand.mounted in
      omega arith

  -- each thread is in the lists of monitors where its phase says so
  pub step_seated : AreSeated state.monitors state.threads
  step_seated = seated state x.before.state (is_out x.before.schedule) x.parts.state

  pub lacks_by : (new : ProgramState) → LacksRoom w t state frames new → Lacks w n state deques on c t k frames x new deques
  lacks_by new h = record {
    parts = subst (λ a. AreParts n a deques on x.before) (sym h.same) x.parts;
    lacks = h.lacks (with_frames x.before.state t frames) (is_out x.before.schedule) (ahead_is w n state deques on c t k frames x) (ahead_has w n state deques on c t k frames x);
  }

  pub reads_by : (now : ℕ) (new : ProgramState) → ReadsFirst w now t state frames new → WaitsForClock w n state deques on c t k frames x now new deques
  reads_by now new h = record {
    parts = subst (λ a. AreParts n a deques on x.before) (sym h.same) x.parts;
    later = subst (λ i. i < now) x.parts.state.now h.later;
    reads = h.reads (with_frames x.before.state t frames) (is_out x.before.schedule) (ahead_is w n state deques on c t k frames x) (ahead_has w n state deques on c t k frames x);
  }

  in_time_by : (now : ℕ) → IsInTime w now t state frames → reads_clock_next w (with_frames x.before.state t frames) t ≡ true → now ≤ x.before.state.now
  in_time_by now in_time reads =
      subst (λ i. now ≤ i) x.parts.state.now
      (in_time (with_frames x.before.state t frames) (is_out x.before.schedule) (ahead_is w n state deques on c t k frames x) (ahead_has w n state deques on c t k frames x) reads)

  module _ (made : Move) (new : ProgramState) (after : List Frame) (made_so : Moves w made t state frames new after) where
    pub moved : IsMoved w made t new after (with_frames x.before.state t frames) (is_out x.before.schedule)
    moved =
        made_so.leads (with_frames x.before.state t frames) (is_out x.before.schedule) (ahead_is w n state deques on c t k frames x)
        (ahead_out w n state deques on c t k frames x) (ahead_has w n state deques on c t k frames x)

    pub step_below : t < length new.threads.threads
    step_below =
        let same = rows_length new moved.leads.next (is_out x.before.schedule) moved.leads.is in
        let inside = slice_get_within moved.leads.next.threads t moved.leads.has.thread moved.leads.has.at in
        omega arith

    pub who_is_touched : IsTouched made.others (length new.threads.threads)
    who_is_touched = touched w n state deques on c t k frames x made new after made_so.lists made_so.first moved

    pub who_starts : (u : ℕ) → made.others ≡ moves.Starts u → total (count u) deques.lists ≡ 0
    who_starts u e = start_free w n state deques on c t k frames x made new after made_so.lists made_so.first moved u e

    pub enters_by : (left : Lists) (now : ℕ) (told : After) → IsInTime w now t state frames → HasPut new t made.others c deques.lists left.lists → length new.threads.threads ≤ left.threads
        → ((r : State) (out : ℕ → Bool) → IsState new r out → told ≡ outcome_of (has_ended r t) (nat_lt 0 (pins_of w after)) made.yields (enabled r t))
        → Enters w n state deques on c t k frames x now told (picked made.others) new left after
    enters_by left now told in_time put room tells =
        let v = then w n state deques on c t k frames x made new after made_so.lists made_so.first moved in
        let is = tells moved.leads.next (is_out x.before.schedule) moved.leads.is in
        record {
          in_time = in_time_by now in_time;
          unread = reads_none w (with_frames x.before.state t frames) moved.leads.next t (picked made.others) moved.leads.makes;
          then = v;
          makes = step_enters w n state deques on c t k frames x made new after made_so.lists made_so.first moved;
          parts = then_parts w n state deques on c t k frames x made new after made_so.lists made_so.first moved left put room;
          hand = then_hand w n state deques on c t k frames x made new after made_so.lists made_so.first moved;
          outcome = subst (λ a. IsTold w a v t) (sym is) (then_outcome w n state deques on c t k frames x made new after made_so.lists made_so.first moved);
        }

    pub concluded_by : (left : Lists) (now : ℕ) (pick : Option ℕ) (tried : Attempt After) → IsInTime w now t state frames → IsConcluded w new t after made c deques left pick tried
        → IsTried w n state deques on c t k frames x now tried pick new left after
    concluded_by left now pick (Made told) in_time ends =
        subst (λ u. Enters w n state deques on c t k frames x now told u new left after) (sym ends.pick_is)
        (enters_by left now told in_time ends.put ends.room ends.outcome)
    concluded_by left now pick LacksThreads in_time ends = absurd ends.outcome
    concluded_by left now pick ReadsClock in_time ends = absurd ends.outcome

  -- ---- the step of a thread that runs, which leaves the table of threads as it was, in a program that goes on

  module _ (new : ProgramState) (after : List Frame) (made_so : MovesAtAnyTime w alone t state frames new after) (runs : phase_at state.threads t ≡ Some Run)
      (same : new.threads ≡ state.threads) (going : (r : State) (out : ℕ → Bool) → IsState new r out → ending r ≡ None) where
    still_runs : phase_at new.threads t ≡ Some Run
    still_runs = ap (λ (table : Threads). phase_at table t) same ∙ runs

    enabled_now : (r : State) (out : ℕ → Bool) → IsState new r out → HasFrames r t after → enabled r t ≡ true
    enabled_now r out is has =
        let status = status_is new r out t has.thread Run is has.at still_runs in
        let ready : is_ready r has.thread has.thread.thread.status ≡ true = ap (is_ready r has.thread) status in
        and_from (is_none (ending r)) _ (ap is_none (going r out is))
        (ap (λ o. option_map_or (λ (y : JavaThread). is_ready r y y.thread.status) o false) has.at ∙ ready)

    alive_now : (r : State) (out : ℕ → Bool) → IsState new r out → HasFrames r t after → has_ended r t ≡ false
    alive_now r out is has = enabled_alive r t has.thread has.at (enabled_now r out is has)

    pub enters_running : (now : ℕ) → Enters w n state deques on c t k frames x now Runs None new deques after
    enters_running now =
        let m = moved alone new after made_so.0 in
        let is = m.leads.is in
        let has = m.leads.has in
        let r = m.leads.next in
        let out = is_out x.before.schedule in
        let alive = alive_now r out is has in
        let goes = goes_by (has_ended r t) (nat_lt 0 (pins_of w after)) false (enabled r t) alive refl (enabled_now r out is has) in
        let v = then w n state deques on c t k frames x alone new after made_so.0.lists made_so.0.first m in
        let parts = then_parts w n state deques on c t k frames x alone new after made_so.0.lists made_so.0.first m deques (put_nobody new t c moves.Stay deques.lists refl (ended_in new r out t is ∙ alive)) room in
        let hand = then_hand w n state deques on c t k frames x alone new after made_so.0.lists made_so.0.first m in
        record {
          in_time = in_time_by now (made_so.1 now);
          unread = λ reads. refl;
          then = v;
          makes = step_enters w n state deques on c t k frames x alone new after made_so.0.lists made_so.0.first m;
          parts = parts;
          hand = hand;
          outcome = (
            (subst (λ a. IsTold w a v t) (sym goes) (then_outcome w n state deques on c t k frames x alone new after made_so.0.lists made_so.0.first m)).0,
            record { thread = hand.thread; at = hand.at; status = status_is new v.state (is_out v.schedule) t hand.thread Run parts.state hand.at still_runs },
            enabled_now r out is has,
          );
        }
      where
        room : length new.threads.threads ≤ deques.threads
        room =
            let table = ap (λ (table : Threads). length table.threads) same in
            let old = rows_length state x.before.state (is_out x.before.schedule) x.parts.state in
            let fits = x.parts.room in
            omega arith

-- ---- results in one word

pub entered_by : (made : StepResult) (after result : After) (h entries : List Entry) (told tells : Option Ending) (c most : ℕ) (step : What) → told_of made ≡ Ok (Made after)
    → entries ≡ h ++ record { carrier = c; what = step } ∷ [] → tells ≡ told → result ≡ after → IsEntered (told_of made) h told c step most entries tells result
entered_by made after result h entries told tells c most step is items same so =
    subst (λ r. IsEntered r h told c step most entries tells result) (sym is) (items, same, so)

-- the end of a step that was made
pub concluded_so : (w : World) (made : Move) (state new : ProgramState) (m : Continuation) (deques left : Lists) (c now : ℕ) (tried : Result (Attempt After) NoMemory) (pick : Option ℕ)
    (after : List Frame) → Moves w made m.thread state m.stack.frames new after → IsInTime w now m.thread state m.stack.frames
    → IfOk tried (IsConcluded w new m.thread after made c deques left pick) → IsTriedSo w state deques c m now tried pick new left after
concluded_so w made state new m deques left c now tried pick after made_so in_time ends carriers n on from =
    IfOk-weaker tried (IsConcluded w new m.thread after made c deques left pick) (λ o. IsTried w carriers state deques on c m.thread n m.stack.frames from now o pick new left after)
    (λ o is. concluded_by w carriers state deques on c m.thread n m.stack.frames from made new after made_so left now pick o in_time is) ends

pub concluded_stays : (w : World) (state : ProgramState) (t c : ℕ) (frames : List Frame) (made : Move) (deques left : Lists) (pick : Option ℕ) (m k : Continuation) (tried : Result (Attempt After) NoMemory)
    → IfOk tried (IsConcluded w state t frames made c deques left pick) → IfOk tried (λ o. StaysIfReading o m k)
concluded_stays w state t c frames made deques left pick m k tried ends =
    IfOk-weaker tried (IsConcluded w state t frames made c deques left pick) (λ o. StaysIfReading o m k) by ends
  where
    by : (o : Attempt After) → IsConcluded w state t frames made c deques left pick o → StaysIfReading o m k
    by (Made told) is = tt
    by LacksThreads is = tt
    by ReadsClock is = absurd is.outcome

-- what holds of a step that was tried holds where its instruction asks something, since nothing has changed
pub still_tried : (w : World) (old mid new : ProgramState) (m n : Continuation) (deques left : Lists) (c now : ℕ) (tried : Result (Attempt After) NoMemory) (pick : Option ℕ)
    (after : List Frame) → Stays old m mid n → IsTriedSo w mid deques c n now tried pick new left after → IsTriedSo w old deques c m now tried pick new left after
still_tried w old mid new m n deques left c now tried pick after stays is =
    subst (λ (k : Continuation). IsTriedSo w old deques c k now tried pick new left after) stays.mounted
    (subst (λ (s : ProgramState). IsTriedSo w s deques c n now tried pick new left after) stays.state is)

-- ---- whom a step picked

-- the result is that of its thread, if it picked nobody, or its thread goes on
pub picks_none : (others : Others) (became : StepResult) → picked others ≡ None → picked_by became ≡ None → IfOk (told_of became) (IsPicking others became (picked_by became))
picks_none others became none nobody = by (told_of became) refl
  where
    by : (o : Result (Attempt After) NoMemory) → told_of became ≡ o → IfOk o (IsPicking others became (picked_by became))
    by (Ok tried) is = record { same = is; pick_is = nobody ∙ sym none }
    by (Err e) is = tt

-- what becomes of the thread is told by its pins where it yielded or can't go on
pub becomes_by_pins : (w : World) (state : ProgramState) (t : ℕ) (frames : List Frame) (yields goes : Bool) (told : Result (Attempt After) NoMemory)
    → told ≡ Ok (Made (outcome_of false (nat_lt 0 (pins_of w frames)) yields goes))
    → ((r : State) (out : ℕ → Bool) → IsState state r out → (has_ended r t ≡ false) × (goes ≡ enabled r t)) → IfOk told (Becomes w state t frames yields)
becomes_by_pins w state t frames yields goes told is so =
    let pinned = nat_lt 0 (pins_of w frames) in
    subst (λ o. IfOk o (Becomes w state t frames yields)) (sym is)
    (λ r out at. ap (λ b. outcome_of b pinned yields goes) (sym (so r out at).0) ∙ ap (outcome_of (has_ended r t) pinned yields) (so r out at).1)

pub concluded_with : (w : World) (state : ProgramState) (t : ℕ) (frames : List Frame) (made : Move) (c : ℕ) (old new : Lists) (became : StepResult) (pick : Option ℕ)
    (tried : Result (Attempt After) NoMemory) → HasPut state t made.others c old.lists new.lists → length state.threads.threads ≤ new.threads
    → IfOk (told_of became) (Becomes w state t frames made.yields) → IfOk tried (IsPicking made.others became pick) → IfOk tried (IsConcluded w state t frames made c old new pick)
concluded_with w state t frames made c old new became pick tried put room becomes picks =
    IfOk-weaker tried (IsPicking made.others became pick) (IsConcluded w state t frames made c old new pick)
    (λ o is. record { put = put; room = room; outcome = subst (λ r. IfOk r (Becomes w state t frames made.yields)) is.same becomes; pick_is = is.pick_is }) picks
