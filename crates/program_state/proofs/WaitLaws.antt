-- Which threads wait, how one goes on, and how the program has ended.
use Rattle.std.proofs.Common.{◌≡◌, ℕ, zero, suc, ◌+◌, ◌<◌, ◌≤◌, Bool, true, false, List, [], ◌∷◌, ◌++◌, length, get_or, take, arith, Option, Some, None, refl, ap, sym, subst, ◌∙◌}
use Rattle.std.specs.Prelude.{◌↔◌, Contains, filter, is_none, map, slice_get, ◌&&◌, ◌||◌, if◌then◌else◌}
use Rattle.std.specs.List.{list_any}
use Rattle.std.specs.List.Sorted.{IsStrictlyIncreasing}
use Rattle.std.proofs.lemmas.Grind.{common_steps}
use Rattle.std.proofs.lemmas.List.Elements.{filter-append}
use Rattle.std.proofs.lemmas.List.Kept.{IsStrictlyIncreasing-filter}
use Rattle.std.specs.Option.{option_map, option_map_or}
use Rattle.vthread_state.specs.declared.phase.Phase.TheVariants.{Run, Throwing, Entering, Waiting, Reenter, Parked, Asleep, Joining}
use Rattle.vthread_state.specs.declared.thread.Status.{Status}
use Rattle.vthread_state.specs.declared.thread.Status.TheVariants.{New, Live, Done}
use Rattle.vthread_state.specs.declared.thread.Thread.{Thread}
use Rattle.vthread_state.specs.Threads as table
use Rattle.vthread_state.specs.Threads.{Threads, goes_on, joins, thread_at}
use Rattle.ref_model.specs.declared.ending.Ending.{Ending}
use Rattle.ref_model.specs.declared.ending.Ending.TheVariants.{Ended, MainThrew}
use Rattle.ref_model.specs.Enabled.{enabled, has_ended, is_done, is_ready}
use Rattle.ref_model.specs.Memory.{Memory}
use Rattle.ref_model.specs.Ending.{ending, exit_or, keeps_going, threads_ending}
use Rattle.ref_model.specs.State.{JavaThread, State}
use Rattle.ref_model.specs.Waiting.{is_reached}
use Rattle.program_state.specs.declared.state.ProgramState.{ProgramState}
use Rattle.ref_model.specs.Enabled.{is_free}
use Rattle.ref_model.specs.State.{Owner}
use Rattle.monitors.specs.Monitors.{monitor_of}
use Rattle.program_state.specs.States.{IsState}
use Rattle.program_state.specs.Waking.{flag_at}
use Rattle.program_state.specs.Waiting.{AreWoken, has_ended_in, lies_in, status_goes_on_in}
use Rattle.program_state.proofs.MemberLaws.{filter_has, filter_keeps}
use Rattle.program_state.proofs.StateLaws.{row_back}
use Rattle.program_state.proofs.FlagLaws.{own_interrupt, own_permit}

-- ---- how the program has ended

going_same : (xs : List JavaThread) → list_any table.keeps_going (map (λ (x : JavaThread). x.thread) xs) ≡ list_any keeps_going xs
going_same [] = refl
going_same (x ∷ xs) = ap (λ b. table.keeps_going x.thread || b) (going_same xs)

pub goes_on_is : (a : ProgramState) (r : State) (out : ℕ → Bool) → IsState a r out → goes_on a.threads ≡ list_any keeps_going r.threads
goes_on_is a r out is = ap (list_any table.keeps_going) is.rows ∙ going_same r.threads

pub threads_go_on : (a : ProgramState) (r : State) (out : ℕ → Bool) → IsState a r out → goes_on a.threads ≡ true → threads_ending r ≡ None
threads_go_on a r out is e =
    ap (λ b. if b then None else if r.main_threw then Some MainThrew else Some Ended) (sym (goes_on_is a r out is) ∙ e)

pub threads_ended : (a : ProgramState) (r : State) (out : ℕ → Bool) (threw : Bool) → IsState a r out → goes_on a.threads ≡ false → a.memory.main_threw ≡ threw
    → threads_ending r ≡ (if threw then Some MainThrew else Some Ended)
threads_ended a r out threw is e threw_is =
    ap (λ b. if b then None else if r.main_threw then Some MainThrew else Some Ended) (sym (goes_on_is a r out is) ∙ e)
    ∙ ap (λ b. if b then Some MainThrew else Some Ended) (sym is.main_threw ∙ threw_is)

pub ending_is : (a : ProgramState) (r : State) (out : ℕ → Bool) (told : Option Ending) → IsState a r out → told ≡ exit_or a.memory.natives.exited (threads_ending r) → told ≡ ending r
ending_is a r out told is e = e ∙ ap (λ (m : Memory). exit_or m.exited (threads_ending r)) is.memory

-- ---- which thread may make a step

none_not : (o : Option Ending) → o ≡ None → is_none o ≡ true
none_not o e = ap is_none e

enabled_is : (r : State) (t : ℕ) (x : JavaThread) (status : Status) → ending r ≡ None → slice_get r.threads t ≡ Some x → x.thread.status ≡ status → enabled r t ≡ is_ready r x status
enabled_is r t x status on at is =
    ap (λ b. b && option_map_or (λ (y : JavaThread). is_ready r y y.thread.status) (slice_get r.threads t) false) (none_not (ending r) on)
    ∙ ap (λ o. option_map_or (λ (y : JavaThread). is_ready r y y.thread.status) o false) at ∙ ap (is_ready r x) is

done_same : (a : Threads) (r : State) (u : ℕ) → a.threads ≡ map (λ x. x.thread) r.threads → has_ended_in a u ≡ has_ended r u
done_same a r u rows = ap (λ ts. option_map_or (λ (z : Thread). is_done z.status) (slice_get ts u) false) rows ∙ by r.threads u
  where
    by : (xs : List JavaThread) (v : ℕ) → option_map_or (λ (z : Thread). is_done z.status) (slice_get (map (λ (x : JavaThread). x.thread) xs) v) false
        ≡ option_map_or (λ (x : JavaThread). is_done x.thread.status) (slice_get xs v) false
    by [] v = refl
    by (x ∷ xs) zero = refl
    by (x ∷ xs) (suc v) = by xs v

-- two tests, of which each is the other's
or_same : (a b c d : Bool) → a ≡ b → c ≡ d → (a || c) ≡ (b || d)
or_same a b c d e f = λ i. e i || f i

reached_is : (a : ProgramState) (r : State) (out : ℕ → Bool) (deadline : Option ℕ) → IsState a r out → is_reached a.time deadline ≡ is_reached r.now deadline
reached_is a r out deadline is = ap (λ now. is_reached now deadline) is.now

-- whether a monitor has no owner
free_is : (a : ProgramState) (r : State) (out : ℕ → Bool) (o : ℕ) → IsState a r out → is_none (monitor_of a.monitors o).owner ≡ is_free r o
free_is a r out o is = by (monitor_of a.monitors o).owner ∙ ap (λ (x : Option Owner). is_none x) (is.monitors.owners_are o)
  where
    owned : ℕ → Owner
    owned t = record { thread = t; count = (monitor_of a.monitors o).count }

    by : (owner : Option ℕ) → is_none owner ≡ is_none (option_map owned owner)
    by None = refl
    by (Some t) = refl

ready_is : (a : ProgramState) (r : State) (out : ℕ → Bool) (t : ℕ) (x : JavaThread) (status : Status) → IsState a r out → slice_get r.threads t ≡ Some x
    → status_goes_on_in a t status ≡ is_ready r x status
ready_is a r out t x New is at = refl
ready_is a r out t x Done is at = refl
ready_is a r out t x (Live Run) is at = refl
ready_is a r out t x (Live (Throwing o)) is at = refl
ready_is a r out t x (Live (Entering o)) is at = free_is a r out o is
ready_is a r out t x (Live (Waiting o count deadline)) is at = refl
ready_is a r out t x (Live (Reenter o count wake)) is at = free_is a r out o is
ready_is a r out t x (Live (Parked deadline)) is at =
    or_same (flag_at a.wakes.permits t) x.permit (flag_at a.wakes.interrupts t || is_reached a.time deadline) (x.interrupted || is_reached r.now deadline) (own_permit a r out t x is at)
    (or_same (flag_at a.wakes.interrupts t) x.interrupted (is_reached a.time deadline) (is_reached r.now deadline) (own_interrupt a r out t x is at) (reached_is a r out deadline is))
ready_is a r out t x (Live (Asleep deadline)) is at =
    or_same (flag_at a.wakes.interrupts t) x.interrupted (is_reached a.time (Some deadline)) (is_reached r.now (Some deadline)) (own_interrupt a r out t x is at)
    (reached_is a r out (Some deadline) is)
ready_is a r out t x (Live (Joining target deadline)) is at =
    or_same (has_ended_in a.threads target) (has_ended r target) (flag_at a.wakes.interrupts t || is_reached a.time deadline) (x.interrupted || is_reached r.now deadline)
    (done_same a.threads r target is.rows)
    (or_same (flag_at a.wakes.interrupts t) x.interrupted (is_reached a.time deadline) (is_reached r.now deadline) (own_interrupt a r out t x is at) (reached_is a r out deadline is))

pub tells_enabled : (a : ProgramState) (t : ℕ) (own : Thread) (told : Bool) → thread_at a.threads t ≡ Some own → told ≡ status_goes_on_in a t own.status
    → (r : State) (out : ℕ → Bool) → IsState a r out → ending r ≡ None → told ≡ enabled r t
tells_enabled a t own told there tells r out is on =
    let x = row_back a.threads r t own is.rows there in
    let status : x.0.thread.status ≡ own.status = ap (λ (z : Thread). z.status) x.2 in
    tells ∙ ready_is a r out t x.0 own.status is x.1 ∙ sym (enabled_is r t x.0 own.status on x.1 status)

-- ---- whom the end of a thread wakes

pub are_woken : (t : ℕ) (a : ProgramState) (joiners woken : List ℕ) → ((u : ℕ) → Contains joiners u ↔ (joins a.threads u ≡ Some t)) → IsStrictlyIncreasing joiners
    → woken ≡ filter (lies_in a.frozen.items) joiners → AreWoken t a woken
are_woken t a joiners woken each rising same =
    record {
      just_these = λ u. (
        λ c. let r = filter_has (lies_in a.frozen.items) joiners u (subst (λ xs. Contains xs u) same c) in ((each u).0 r.0, r.1),
        λ b. subst (λ xs. Contains xs u) (sym same) (filter_keeps (lies_in a.frozen.items) joiners u b.1 ((each u).1 b.0)),
      );
      rising = subst IsStrictlyIncreasing (sym same) (IsStrictlyIncreasing-filter (lies_in a.frozen.items) joiners rising);
    }

-- one joiner more
pub woken_more : (p : ℕ → Bool) (xs : List ℕ) (i : ℕ) (old new : List ℕ) → i < length xs → old ≡ filter p (take i xs) → new ≡ old ++ filter p (get_or xs i 0 ∷ [])
    → new ≡ filter p (take (i + 1) xs)
woken_more p xs i old new inside before step =
    let x = get_or xs i 0 in
    let t : take (i + 1) xs ≡ take i xs ++ x ∷ [] = grind (arith, common_steps) in
    step ∙ ap (λ ys. ys ++ filter p (x ∷ [])) before ∙ sym (filter-append p (take i xs) (x ∷ [])) ∙ ap (filter p) (sym t)

-- all joiners were looked at
pub woken_all : (p : ℕ → Bool) (xs : List ℕ) (i : ℕ) (woken : List ℕ) → length xs ≤ i → woken ≡ filter p (take i xs) → woken ≡ filter p xs
woken_all p xs i woken past same = let all : take i xs ≡ xs = grind (arith, common_steps) in same ∙ ap (filter p) all
