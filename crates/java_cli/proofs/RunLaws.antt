-- What the call answers to a run.
use Rattle.std.proofs.Common.{◌≡◌, ◌⊎◌, inl, inr, ℕ, ◌<◌, true, false, Bool, ℤ, List, [], take, length, Option, Some, None, refl, sym, ap, subst, ◌∙◌, arith}
use Rattle.std.specs.Prelude.{◌++◌, unwrap_or, if◌then◌else◌}
use Rattle.std.specs.List.{list_any}
use Rattle.std.proofs.lemmas.List.{take_all}
use Rattle.jvm_edges.specs.Bytes.{Appends}
use Rattle.jvm_edges.specs.Causes.{Rose}
use Rattle.jvm_edges.specs.Files as store
use Rattle.history.specs.declared.entry.Entry.{Entry}
use Rattle.schedule_model.specs.Run.{Scheduled}
use Rattle.ref_model.specs.declared.ending.Ending.{Ending}
use Rattle.ref_model.specs.declared.ending.Ending.TheVariants as endings
use Rattle.ref_model.specs.declared.ending.Which.TheVariants as limits
use Rattle.ref_model.specs.declared.limits.Limits.{Limits}
use Rattle.link_model.specs.World.{World}
use Rattle.ref_model.specs.Setting.{Setting}
use Rattle.ref_model.specs.State.{State}
use Rattle.ref_model.specs.Ending.{ending, exit_or, keeps_going, threads_ending}
use Rattle.carrier.specs.Runs.{AreListed, IsCause, IsEndingOf, own, caused, limited, IsRun}
use Rattle.answers.specs.declared.report.Report.{Report}
use Rattle.java_cli.specs.declared.runnable.Runnable.{Runnable}
use Rattle.command_line.specs.declared.answer.Which.TheVariants.{Threads, Events}
use Rattle.command_line.specs.declared.answer.Why.{Why}
use Rattle.command_line.specs.declared.answer.Why.TheVariants.{Ended, MainThrew, Exited, Stalled, Starved, Usage, Limit, SinkFault, NoMemory}
use Rattle.arguments.specs.Commands.{Run}
use Rattle.command_line.specs.Commands.{Names, names_of, no_names}
use Rattle.command_line.specs.Answers.{line_of, memory_line}
use Rattle.program_files.specs.Limits.{run_limits}
use Rattle.java_cli.specs.Causes.{HasRun, IsOfRun, Due, runs, IsDueOrFault, IsCaused, IsExact}
use Rattle.input_files.specs.StoreFaults.{StoreFaults}
use Rattle.java_cli.specs.Runs.{HasRead, IsRunDue}
use Rattle.answers.specs.Taken.{IsOutTaken, TakesLine, OutFaults, Takes, taken_of}
use Rattle.answers.specs.Reports.{IsIdle}
use Rattle.java_cli.specs.Headline.{IsEndingAnswer, IsRunAnswer, IsErrTaken, RanProgram, Ran, IsRunOrNoMemory, OnRun, OnNoRun, answer_with, line_after, run_tail, tail_of, trace_part, ending_answer, Wrote, Unwritten}
use Rattle.java_cli.proofs.AnswerLaws.{has_run, memory_exact}
use Rattle.java_cli.proofs.LineLaws.{answer_told}

-- ---- the answer to an ending

-- how a program ends by itself
abbrev IsOwnEnding : Ending → Type 0
IsOwnEnding endings.Ended = Unit {0}
IsOwnEnding endings.MainThrew = Unit {0}
IsOwnEnding (endings.Exited status) = Unit {0}
IsOwnEnding told = ⊥

own_ending : (r : State) (e : Ending) → ending r ≡ Some e → IsOwnEnding e
own_ending r e is = by_exit r.memory.exited is
  where
    same : (a b : Ending) → IsOwnEnding a → Some a ≡ Some b → IsOwnEnding b
    same a b of is = subst IsOwnEnding (let e : a ≡ b = cc in e) of

    by_threads : (goes threw : Bool) → (if goes then None else if threw then Some endings.MainThrew else Some endings.Ended) ≡ Some e → IsOwnEnding e
    by_threads true threw is = absurd cc
    by_threads false true is = same endings.MainThrew e tt is
    by_threads false false is = same endings.Ended e tt is

    by_exit : (o : Option ℤ) → exit_or o (threads_ending r) ≡ Some e → IsOwnEnding e
    by_exit None is = by_threads (list_any keeps_going r.threads) r.main_threw is
    by_exit (Some status) is = same (endings.Exited status) e tt is

-- the answer is that of the ending
own_told : (p : Setting) (entries : ℕ) (v : Scheduled State) (listed : List ℕ) (told : Ending) → IsOwnEnding told → ending v.state ≡ Some told → IsEndingAnswer p entries v (ending_answer listed told)
own_told p entries v listed endings.Ended of is = is
own_told p entries v listed endings.MainThrew of is = is
own_told p entries v listed (endings.Exited status) of is = is
own_told p entries v listed told of is = absurd of

cause_told : (p : Setting) (entries : ℕ) (v : Scheduled State) (listed : List ℕ) (told : Ending) → IsCause p v told → (told ≡ endings.Halted → ⊥) → AreListed v told listed
    → IsEndingAnswer p entries v (ending_answer listed told)
cause_told p entries v listed endings.Stalled cause not_given_up are_listed = (cause, are_listed)
cause_told p entries v listed endings.Starved cause not_given_up are_listed = (cause, are_listed)
cause_told p entries v listed (endings.Limit limits.Threads n) cause not_given_up are_listed = cause
cause_told p entries v listed endings.Halted cause not_given_up are_listed = absurd (not_given_up refl)
cause_told p entries v listed told cause not_given_up are_listed = absurd cause

ending_told : (p : Setting) (entries : ℕ) (v : Scheduled State) (listed : List ℕ) (told : Ending) → IsEndingOf p v entries told → AreListed v told listed
    → IsEndingAnswer p entries v (ending_answer listed told)
ending_told p entries v listed told (own is) are_listed = own_told p entries v listed told (own_ending v.state told is) is
ending_told p entries v listed told (caused cause not_given_up) are_listed = cause_told p entries v listed told cause not_given_up are_listed
ending_told p entries v listed told (limited going is few) are_listed = subst (λ (e : Ending). IsEndingAnswer p entries v (ending_answer listed e)) (sym is) (going, refl, few)

-- it is an answer to the run
ending_or_fault : (p : Setting) (entries : ℕ) (v : Scheduled State) (why : Why) → IsEndingAnswer p entries v why → IsRunAnswer p entries v why
ending_or_fault p entries v (SinkFault which written) is = absurd is
ending_or_fault p entries v why is = is

fault_or_ending : (p : Setting) (entries : ℕ) (v : Scheduled State) (why : Why) (out_fault err_fault : Option ℕ) → IsEndingAnswer p entries v why → IsRunAnswer p entries v (answer_with why out_fault err_fault)
fault_or_ending p entries v why (Some n) err_fault is = (why, is)
fault_or_ending p entries v why None (Some n) is = (why, is)
fault_or_ending p entries v why None None is = ending_or_fault p entries v why is

-- it is the answer to a run, and no other
answer_of_run : (p : Setting) (entries : ℕ) (v : Scheduled State) (why : Why) → IsRunAnswer p entries v why → IsOfRun why
answer_of_run p entries v Ended is = tt
answer_of_run p entries v MainThrew is = tt
answer_of_run p entries v (Exited status) is = tt
answer_of_run p entries v (Stalled threads) is = tt
answer_of_run p entries v (Starved threads) is = tt
answer_of_run p entries v (Limit Threads number) is = tt
answer_of_run p entries v (Limit Events number) is = tt
answer_of_run p entries v (SinkFault which written) is = tt
answer_of_run p entries v why is = absurd is

-- ---- what the sinks took

-- an answer that names no sink
abbrev NamesNoSink : Why → Type 0
NamesNoSink (SinkFault which written) = ⊥
NamesNoSink why = Unit {0}

names_no_sink : (listed : List ℕ) (told : Ending) → NamesNoSink (ending_answer listed told)
names_no_sink listed endings.Ended = tt
names_no_sink listed endings.MainThrew = tt
names_no_sink listed (endings.Exited status) = tt
names_no_sink listed endings.Stalled = tt
names_no_sink listed endings.Starved = tt
names_no_sink listed (endings.Limit limits.Threads number) = tt
names_no_sink listed (endings.Limit limits.Events number) = tt
names_no_sink listed told = tt

taken_is : (why : Why) (out_fault err_fault : Option ℕ) (size : ℕ) → NamesNoSink why → ((n : ℕ) → out_fault ≡ Some n → n < size) → IsOutTaken (answer_with why out_fault err_fault) (taken_of out_fault size) size
taken_is why (Some n) err_fault size none short = (refl, short n refl)
taken_is why None (Some n) size none short = refl
taken_is (SinkFault which written) None None size none short = absurd none
taken_is why None None size none short = refl

err_taken_is : (why : Why) (out_fault err_fault : Option ℕ) (size : ℕ) → NamesNoSink why → ((n : ℕ) → err_fault ≡ Some n → n < size) → IsErrTaken (answer_with why out_fault err_fault) (taken_of err_fault size) size
err_taken_is why (Some n) None size none short = omega arith
err_taken_is why (Some n) (Some m) size none short = let lt = short m refl in omega (arith, lt)
err_taken_is why None (Some n) size none short = (refl, short n refl)
err_taken_is (SinkFault which written) None None size none short = absurd none
err_taken_is why None None size none short = refl

-- how many bytes were taken, where the sink failed
fault_short : {S : Type 0} (contents : S → Option (List ℕ)) (faults : S → ℕ) (old new : S) (bytes : List ℕ) (r : Option ℕ) → Takes contents faults old new bytes r → (n : ℕ) → r ≡ Some n → n < length bytes
fault_short contents faults old new bytes None takes n is = absurd cc
fault_short contents faults old new bytes (Some m) takes n is = let same : m ≡ n = cc in subst (λ (k : ℕ). k < length bytes) same takes.1

takes_front : {S : Type 0} (contents : S → Option (List ℕ)) (faults : S → ℕ) (old new : S) (bytes : List ℕ) (r : Option ℕ) → Takes contents faults old new bytes r → Appends (contents old) (take (taken_of r (length bytes)) bytes) (contents new)
takes_front contents faults old new bytes None takes = subst (λ (piece : List ℕ). Appends (contents old) piece (contents new)) (sym (take_all (length bytes) bytes (omega arith))) takes.0
takes_front contents faults old new bytes (Some n) takes = takes.0

out_faults_are : (why : Why) (out_fault err_fault : Option ℕ) (before now : ℕ) → NamesNoSink why → ((n : ℕ) → out_fault ≡ Some n → Rose before now) → (out_fault ≡ None → now ≡ before)
    → OutFaults (answer_with why out_fault err_fault) before now
out_faults_are why (Some n) err_fault before now none rose kept = rose n refl
out_faults_are why None (Some n) before now none rose kept = kept refl
out_faults_are (SinkFault which written) None None before now none rose kept = absurd none
out_faults_are why None None before now none rose kept = kept refl

faults_by : {S : Type 0} (contents : S → Option (List ℕ)) (faults : S → ℕ) (old new : S) (bytes : List ℕ) (why : Why) (r err_fault : Option ℕ) → NamesNoSink why → Takes contents faults old new bytes r
    → OutFaults (answer_with why r err_fault) (faults old) (faults new)
faults_by contents faults old new bytes why None err_fault none takes = out_faults_are why None err_fault (faults old) (faults new) none (λ n is. absurd cc) (λ is. takes.1)
faults_by contents faults old new bytes why (Some n) err_fault none takes = out_faults_are why (Some n) err_fault (faults old) (faults new) none (λ m is. takes.2) (λ is. absurd cc)

-- ---- the report

unwrapped : (o : Option ℕ) (size : ℕ) → unwrap_or o size ≡ taken_of o size
unwrapped None size = refl
unwrapped (Some n) size = refl

module _ {O E : Type 0} (bytes : O → Option (List ℕ)) (counts : O → ℕ) (old_out new_out : O) (contents : E → Option (List ℕ)) (faults : E → ℕ) (old new : E) where
  -- what the err sink took of this error output, and of what follows it
  abbrev Told : Names → Bool → ℕ → Report → List ℕ → Type 0
  Told names trace carriers r text = TakesLine contents faults old new (tail_of names trace carriers r) text r.err_written

  -- a run as it was written, by what the sinks took
  pub wrote_is : (names : Names) (trace : Bool) (carriers : ℕ) (history : List Entry) (text errors : List ℕ) (why : Why) (line last printed : List ℕ) (out_fault err_fault : Option ℕ) (r : Report) → line ≡ line_of names why
      → last ≡ line_after out_fault line → printed ≡ trace_part trace carriers history
      → r.history.items ≡ history → r.why ≡ answer_with why out_fault err_fault → r.out_written ≡ unwrap_or out_fault (length text) → r.err_written ≡ unwrap_or err_fault (length errors)
      → Takes bytes counts old_out new_out text out_fault → ((n : ℕ) → err_fault ≡ Some n → n < length errors) → TakesLine contents faults old new (last ++ printed) errors (taken_of err_fault (length errors))
      → Wrote bytes counts old_out new_out contents faults old new names trace carriers history text errors why r
  wrote_is names trace carriers history text errors why line last printed out_fault err_fault r line_is last_is printed_is history_is why_is out_written err_written takes short told =
      let written : r.err_written ≡ taken_of err_fault (length errors) = err_written ∙ unwrapped err_fault (length errors) in
      let told_of : TakesLine contents faults old new (line_after out_fault line ++ printed) errors (taken_of err_fault (length errors)) =
      subst (λ (l : List ℕ). TakesLine contents faults old new (l ++ printed) errors (taken_of err_fault (length errors))) last_is told in
      let answer : TakesLine contents faults old new (line_of names (answer_with why out_fault err_fault) ++ printed) errors (taken_of err_fault (length errors)) =
      answer_told contents faults old new names why line printed errors out_fault err_fault line_is short told_of in
      let whys : TakesLine contents faults old new (line_of names r.why ++ printed) errors (taken_of err_fault (length errors)) =
      subst (λ (w : Why). TakesLine contents faults old new (line_of names w ++ printed) errors (taken_of err_fault (length errors))) (sym why_is) answer in
      let tail : TakesLine contents faults old new (tail_of names trace carriers r) errors (taken_of err_fault (length errors)) =
      subst (λ (l : List ℕ). TakesLine contents faults old new (line_of names r.why ++ l) errors (taken_of err_fault (length errors))) (printed_is ∙ ap (trace_part trace carriers) (sym history_is)) whys in
      record {
        out_fault = out_fault;
        err_fault = err_fault;
        history = history_is;
        why_is = why_is;
        out = takes;
        out_written = out_written ∙ unwrapped out_fault (length text);
        err_written = written;
        err_size = short;
        err = subst (λ (n : ℕ). TakesLine contents faults old new (tail_of names trace carriers r) errors n) (sym written) tail;
      }

  -- what a run left was written, or memory ran out before
  abbrev pub Delivered : Bool → ℕ → List Entry → List ℕ → List ℕ → Why → Report → Type 0
  Delivered trace carriers history text errors why r =
      Unwritten old_out new_out contents faults old new r ⊎ Wrote bytes counts old_out new_out contents faults old new no_names trace carriers history text errors why r

  -- the report of a run that was written
  ran_is : (p : Setting) (gives : ℕ → Bool) (trace : Bool) (carriers : ℕ) (history : List Entry) (text errors listed : List ℕ) (told : Ending) (r : Report) → IsRun p gives carriers history text errors listed told
      → Wrote bytes counts old_out new_out contents faults old new no_names trace carriers history text errors (ending_answer listed told) r
      → RanProgram p gives carriers (bytes old_out) (bytes new_out) (Told no_names trace carriers r) r
  ran_is p gives trace carriers history text errors listed told r run_is wrote =
      let none = names_no_sink listed told in
      let short = fault_short bytes counts old_out new_out text wrote.out_fault wrote.out in
      let ended = ending_told p (length history) run_is.after listed told run_is.ended run_is.listed in
      let answer = fault_or_ending p (length history) run_is.after (ending_answer listed told) wrote.out_fault wrote.err_fault ended in
      record {
        first = run_is.first;
        last = run_is.after;
        begins = run_is.begins;
        legal = rw wrote.history run_is.legal;
        runs = rw wrote.history run_is.runs;
        answer = rw (wrote.history, wrote.why_is) answer;
        few = rw wrote.history run_is.few;
        times = rw wrote.history run_is.times;
        reasons = rw wrote.history run_is.reasons;
        complete = run_is.complete;
        out = rw (run_is.prints, wrote.out_written) (takes_front bytes counts old_out new_out text wrote.out_fault wrote.out);
        out_taken = rw (wrote.why_is, run_is.prints, wrote.out_written) (taken_is (ending_answer listed told) wrote.out_fault wrote.err_fault (length text) none short);
        err_taken = rw (wrote.why_is, run_is.tells, wrote.err_written) (err_taken_is (ending_answer listed told) wrote.out_fault wrote.err_fault (length errors) none wrote.err_size);
        err = subst (Told no_names trace carriers r) (sym run_is.tells) wrote.err;
      }

  -- a run of main in this world was delivered: so much is known of its report
  pub record IsDelivered (gives : ℕ → Bool) (w : World) (main : ℕ) (most : Limits) (trace : Bool) (carriers : ℕ) (r : Report) : Type 0 where
    pub headline : OnRun r.why ((p : Setting) → p.world ≡ w → p.main ≡ main → p.limits ≡ most → RanProgram p gives carriers (bytes old_out) (bytes new_out) (Told no_names trace carriers r) r)
    pub answer : IsRunOrNoMemory r.why
    pub idle : OnNoRun r.why (IsIdle (bytes old_out) (bytes new_out) r)
    pub out_faults : OutFaults r.why (counts old_out) (counts new_out)
    pub line : OnNoRun r.why (TakesLine contents faults old new (line_of no_names r.why) [] r.err_written)

  -- where memory ran out, nothing was run
  pub unwritten_is : (gives : ℕ → Bool) (w : World) (main : ℕ) (most : Limits) (trace : Bool) (carriers : ℕ) (r : Report) → Unwritten old_out new_out contents faults old new r
      → IsDelivered gives w main most trace carriers r
  unwritten_is gives w main most trace carriers r none = record {
    headline = λ of. absurd (subst IsOfRun none.why of);
    answer = inr none.why;
    idle = λ idle. record { history = none.history; out_written = none.out_written; err_written = none.err_written; same = ap bytes none.same };
    out_faults = rw (none.why, none.same) refl;
    line = λ idle.
        subst (λ (why : Why). TakesLine contents faults old new (line_of no_names why) [] r.err_written) (sym none.why)
        (subst (λ (n : ℕ). TakesLine contents faults old new memory_line [] n) (sym none.err_written) none.line);
  }

  pub delivered_is : (gives : ℕ → Bool) (w : World) (main : ℕ) (most : Limits) (trace : Bool) (carriers : ℕ) (history : List Entry) (text errors listed : List ℕ) (told : Ending) (r : Report)
      → ((p : Setting) → p.world ≡ w → p.main ≡ main → p.limits ≡ most → IsRun p gives carriers history text errors listed told) → Delivered trace carriers history text errors (ending_answer listed told) r
      → IsDelivered gives w main most trace carriers r
  delivered_is gives w main most trace carriers history text errors listed told r run_is (inl none) = unwritten_is gives w main most trace carriers r none
  delivered_is gives w main most trace carriers history text errors listed told r run_is (inr wrote) =
      let ran : (p : Setting) → p.world ≡ w → p.main ≡ main → p.limits ≡ most → RanProgram p gives carriers (bytes old_out) (bytes new_out) (Told no_names trace carriers r) r =
      λ p in_world has_main has_limits. ran_is p gives trace carriers history text errors listed told r (run_is p in_world has_main has_limits) wrote in
      let p : Setting = record { world = w; main = main; limits = most } in
      let first = ran p refl refl refl in
      let of = answer_of_run p (length r.history.items) first.last r.why first.answer in
      record {
        headline = λ of. ran;
        answer = inl of;
        idle = λ idle. absurd (idle of);
        out_faults = subst (λ (why : Why). OutFaults why (counts old_out) (counts new_out)) (sym wrote.why_is)
            (faults_by bytes counts old_out new_out text (ending_answer listed told) wrote.out_fault wrote.err_fault (names_no_sink listed told) wrote.out);
        line = λ idle. absurd (idle of);
      }

-- ---- the report of a command

-- the line of an answer to a run names no argument of the command
same_line : (a b : Names) (why : Why) → IsRunOrNoMemory why → line_of a why ≡ line_of b why
same_line a b why (inl of) = by why of
  where
    by : (why : Why) → IsOfRun why → line_of a why ≡ line_of b why
    by Ended of = refl
    by MainThrew of = refl
    by (Exited status) of = refl
    by (Stalled threads) of = refl
    by (Starved threads) of = refl
    by (Limit which number) of = refl
    by (SinkFault which written) of = refl
    by why of = absurd of
same_line a b why (inr is) = subst (λ (why : Why). line_of a why ≡ line_of b why) (sym is) refl

module _ {E : Type 0} (contents : E → Option (List ℕ)) (faults : E → ℕ) (old new : E) (c : Run) (r : Report) (answer : IsRunOrNoMemory r.why) where
  pub line_is : OnNoRun r.why (TakesLine contents faults old new (line_of no_names r.why) [] r.err_written)
      → OnNoRun r.why (TakesLine contents faults old new (line_of (names_of c) r.why) [] r.err_written)
  line_is line idle = subst (λ (l : List ℕ). TakesLine contents faults old new l [] r.err_written) (same_line no_names (names_of c) r.why answer) (line idle)

  -- the err sink took what follows this command's error output
  of_tail : (text : List ℕ) → TakesLine contents faults old new (tail_of no_names c.trace c.carriers r) text r.err_written → TakesLine contents faults old new (run_tail c r) text r.err_written
  of_tail text =
      subst (λ (l : List ℕ). TakesLine contents faults old new (l ++ trace_part c.trace c.carriers r.history.items) text r.err_written) (same_line no_names (names_of c) r.why answer)

  ran_for : (known : Option store.Files) (gives : ℕ → Bool) (before after : Option (List ℕ)) (x : Runnable) → HasRead known c x
      → RanProgram (record { world = x.checked; main = x.main; limits = run_limits c.events }) gives c.carriers before after (λ text. TakesLine contents faults old new (tail_of no_names c.trace c.carriers r) text r.err_written) r
      → Ran c known gives before after (λ text. TakesLine contents faults old new (run_tail c r) text r.err_written) r
  ran_for known gives before after x read ran = record {
    program = record { world = x.checked; main = x.main; limits = run_limits c.events };
    given = read.given;
    ran = record {
      first = ran.first;
      last = ran.last;
      begins = ran.begins;
      legal = ran.legal;
      runs = ran.runs;
      answer = ran.answer;
      few = ran.few;
      times = ran.times;
      reasons = ran.reasons;
      complete = ran.complete;
      out = ran.out;
      out_taken = ran.out_taken;
      err = of_tail ran.last.state.memory.err ran.err;
      err_taken = ran.err_taken;
    };
  }

  pub headline_is : (known : Option store.Files) (gives : ℕ → Bool) (before after : Option (List ℕ)) (x : Runnable) (most : Limits) → most ≡ run_limits c.events → HasRead known c x
      → OnRun r.why ((p : Setting) → p.world ≡ x.checked → p.main ≡ x.main → p.limits ≡ most
      → RanProgram p gives c.carriers before after (λ text. TakesLine contents faults old new (tail_of no_names c.trace c.carriers r) text r.err_written) r)
      → OnRun r.why (Ran c known gives before after (λ text. TakesLine contents faults old new (run_tail c r) text r.err_written) r)
  headline_is known gives before after x most limits read ran of =
      ran_for known gives before after x read (ran of (record { world = x.checked; main = x.main; limits = run_limits c.events }) refl refl (sym limits))

-- ---- its cause

run_cause : (known : Option store.Files) (faulty : Type 0) (c : Run) (why : Why) → IsOfRun why → HasRun known c → IsCaused known faulty c why
run_cause known faulty c Ended of run = run
run_cause known faulty c MainThrew of run = run
run_cause known faulty c (Exited status) of run = run
run_cause known faulty c (Stalled threads) of run = run
run_cause known faulty c (Starved threads) of run = run
run_cause known faulty c (Limit Threads number) of run = run
run_cause known faulty c (Limit Events number) of run = run
run_cause known faulty c (SinkFault which written) of run = run
run_cause known faulty c why of run = absurd of

run_is_due : (p : Setting) (why : Why) → IsOfRun why → IsDueOrFault (runs p) why
run_is_due p Ended of = tt
run_is_due p MainThrew of = tt
run_is_due p (Exited status) of = tt
run_is_due p (Stalled threads) of = tt
run_is_due p (Starved threads) of = tt
run_is_due p (Limit Threads number) of = tt
run_is_due p (Limit Events number) of = tt
run_is_due p (SinkFault which written) of = tt
run_is_due p why of = absurd of

run_exact : (known : Option store.Files) (faulty : Type 0) (c : Run) (why : Why) → IsOfRun why → HasRun known c → IsRunDue known c → IsExact known faulty c why
run_exact known faulty c why of run due = record {
  cause = run_cause known faulty c why of run;
  due = λ files d told it. let is = due files d told it in subst (λ (x : Due). IsDueOrFault x why) (sym (is.1)) (run_is_due is.0 why of);
}

pub answer_exact : (known : Option store.Files) (faulty : Type 0) (c : Run) (x : Runnable) (why : Why) → HasRead known c x → IsRunDue known c → IsRunOrNoMemory why → IsExact known faulty c why
answer_exact known faulty c x why read due (inl of) = run_exact known faulty c why of (has_run known c x read) due
answer_exact known faulty c x why read due (inr is) = subst (λ (why : Why). IsExact known faulty c why) (sym is) (memory_exact known faulty c)

pub of_run_faults : (why : Why) (before now : ℕ) → IsOfRun why → now ≡ before → StoreFaults why before now
of_run_faults Ended before now of kept = kept
of_run_faults MainThrew before now of kept = kept
of_run_faults (Exited status) before now of kept = kept
of_run_faults (Stalled threads) before now of kept = kept
of_run_faults (Starved threads) before now of kept = kept
of_run_faults (Limit which number) before now of kept = kept
of_run_faults (SinkFault which written) before now of kept = kept
of_run_faults why before now of kept = absurd of

pub answer_store : (why : Why) (before now : ℕ) → IsRunOrNoMemory why → now ≡ before → StoreFaults why before now
answer_store why before now (inl of) kept = of_run_faults why before now of kept
answer_store why before now (inr is) kept = subst (λ (why : Why). StoreFaults why before now) (sym is) tt

pub answer_usage : (why : Why) → IsRunOrNoMemory why → why ≡ Usage → ⊥
answer_usage why (inl of) is = subst IsOfRun is of
answer_usage why (inr none) is = let same : NoMemory ≡ Usage = sym none ∙ is in absurd cc
