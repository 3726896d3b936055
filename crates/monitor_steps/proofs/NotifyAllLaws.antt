-- What is answered to notifyAll.
use Rattle.std.proofs.Common.{append_assoc, append-nil, ◌≡◌, ◌≢◌, ◌++◌, ◌||◌, ◌⊎◌, inl, inr, eqb, arith, ℕ, zero, suc, Bool, true, false, List, [], ◌∷◌, Option, Some, None, refl, ap, sym, subst, ◌∙◌}
use Rattle.std.specs.Prelude.{drop, if◌then◌else◌, is_some, map, slice_get, slice_set, take}
use Rattle.std.specs.List.{list_any}
use Rattle.std.proofs.lemmas.Bool.Decides.{eqb_tells}
use Rattle.vthread_state.specs.declared.phase.Phase.TheVariants.{Run, Throwing, Entering, Waiting, Reenter, Parked, Asleep, Joining}
use Rattle.vthread_state.specs.declared.phase.Wake.TheVariants.{Notified}
use Rattle.vthread_state.specs.declared.thread.Status.{Status}
use Rattle.vthread_state.specs.declared.thread.Status.TheVariants.{New, Live, Done}
use Rattle.link_model.specs.World.{World}
use Rattle.state_model.specs.Frames.{Frame}
use Rattle.monitors.specs.Monitors.{Monitor, after_notify, monitor_of}
use Rattle.ref_model.specs.declared.exception.Exception.TheVariants as exceptions
use Rattle.ref_model.specs.Asking.{goes}
use Rattle.ref_model.specs.Requests.{notifies_all as asks_notify_all}
use Rattle.ref_model.specs.State.{JavaThread, State}
use Rattle.ref_model.specs.Throwing.{raised}
use Rattle.ref_model.specs.Waiting.{notified_on, status_waits_on, status_woken, thread_waits_on, thread_woken, with_all_notified}
use Rattle.ref_model.proofs.StateLaws.{get_set}
use Rattle.schedule_soundness.proofs.ThreadLists.{map_none, map_there, set_other}
use Rattle.monitor_soundness.specs.MonitorPuts.{StaysOrIsNotified, is_notified, stays}
use Rattle.program_state.specs.declared.state.ProgramState.{ProgramState}
use Rattle.program_state.specs.Monitors.{notifies_all}
use Rattle.program_state.specs.States.{IsInPhase, IsState}
use Rattle.program_state.specs.Steps.{notifies}
use Rattle.program_state.proofs.RequestLaws.{notified_then}
use Rattle.program_state.proofs.StateLaws.{stays_same, thread_is}
use Rattle.monitor_steps.specs.declared.outcome.MonitorOutcome.TheVariants as outcomes
use Rattle.monitor_steps.specs.declared.reply.MonitorReply.TheVariants as replies
use Rattle.monitor_steps.specs.Owners.{owns_in}
use Rattle.monitor_steps.specs.Replies.{AnswersSo, GoesFrom}
use Rattle.monitor_steps.specs.Waits.{IsOrWaited, NotifiesAll, NotifiesFirst, NotifiesSome, SomeNotified, is_same, has_waited}
use Rattle.monitor_steps.proofs.ExitLaws.{not_owned}
use Rattle.monitor_steps.proofs.NotifyLaws.{first_of, none_of, waiter_there}
use Rattle.monitor_steps.proofs.WaitLaws.{owned_not_free, throws_same}

-- ---- lists

same_lists_at : {A : Type 0} (xs ys : List A) → ((u : ℕ) → slice_get xs u ≡ slice_get ys u) → xs ≡ ys
same_lists_at [] [] each = refl
same_lists_at [] (y ∷ ys) each = let e = each 0 in absurd cc
same_lists_at (x ∷ xs) [] each = let e = each 0 in absurd cc
same_lists_at (x ∷ xs) (y ∷ ys) each =
    let e = each 0 in
    let same : x ≡ y = cc in
    ap (λ z. z ∷ xs) same ∙ ap (λ zs. y ∷ zs) (same_lists_at xs ys (λ u. each (suc u)))

or_false : (a b : Bool) → (a || b) ≡ false → (a ≡ false) × (b ≡ false)
or_false true b e = absurd cc
or_false false b e = (refl, e)

none_at : (p : JavaThread → Bool) (xs : List JavaThread) (u : ℕ) (x : JavaThread) → slice_get xs u ≡ Some x → list_any p xs ≡ false → p x ≡ false
none_at p [] u x at e = absurd cc
none_at p (y ∷ ys) zero x at e =
    let same : y ≡ x = cc in
    ap p (sym same) ∙ (or_false (p y) (list_any p ys) e).0
none_at p (y ∷ ys) (suc u) x at e = none_at p ys u x at (or_false (p y) (list_any p ys) e).1

-- ---- a thread that was notified waits no more

woken_status : (o : ℕ) (status : Status) → status_waits_on o (status_woken Notified status) ≡ false
woken_status o New = refl
woken_status o (Live (Waiting p n deadline)) = refl
woken_status o (Live (Reenter p n wake)) = refl
woken_status o (Live (Entering p)) = refl
woken_status o (Live Run) = refl
woken_status o (Live (Throwing p)) = refl
woken_status o (Live (Parked deadline)) = refl
woken_status o (Live (Asleep deadline)) = refl
woken_status o (Live (Joining p deadline)) = refl
woken_status o Done = refl

-- ---- no thread was notified yet

pub none_yet : (o : ℕ) (a : ProgramState) → NotifiesSome o a a
none_yet o a =
    record {
      states = λ r out is. record { threads = r.threads; is = is; each = λ u. is_same refl };
      moved = [];
      rest = (monitor_of a.monitors o).wait_list;
      split = refl;
      at = ap (λ xs. record (monitor_of a.monitors o) { entry_list = xs }) (sym (append-nil (monitor_of a.monitors o).entry_list));
      others = λ p ne. refl;
      threads = refl;
      spare = refl;
    }

-- ---- one more

one_more : (o u : ℕ) (before now : Option JavaThread) (x : JavaThread) → now ≡ Some x → thread_waits_on o x ≡ true → IsOrWaited o before now → IsOrWaited o before (Some (thread_woken Notified x))
one_more o u before now x at waits (is_same e) = has_waited x (sym e ∙ at) waits refl
one_more o u before now x at waits (has_waited v was on e) =
    let both : Some (thread_woken Notified v) ≡ Some x = sym e ∙ at in
    let same : thread_woken Notified v ≡ x = cc in
    let no : false ≡ true = sym (woken_status o v.thread.status) ∙ ap (thread_waits_on o) same ∙ waits in absurd cc

more_each : (o u : ℕ) (r : State) (threads : List JavaThread) (x : JavaThread) → slice_get threads u ≡ Some x → thread_waits_on o x ≡ true
    → ((v : ℕ) → IsOrWaited o (slice_get r.threads v) (slice_get threads v)) → (v : ℕ) → IsOrWaited o (slice_get r.threads v) (slice_get (slice_set threads u (thread_woken Notified x)) v)
more_each o u r threads x at waits each v = by (eqb_tells v u)
  where
    y : JavaThread
    y = thread_woken Notified x

    by : ((eqb v u ≡ true) × (v ≡ u)) ⊎ ((eqb v u ≡ false) × (v ≢ u)) → IsOrWaited o (slice_get r.threads v) (slice_get (slice_set threads u y) v)
    by (inl me) =
        subst (λ n. IsOrWaited o (slice_get r.threads n) (slice_get (slice_set threads u y) n)) (sym me.1)
        (subst (IsOrWaited o (slice_get r.threads u)) (sym (get_set threads u x y at)) (one_more o u (slice_get r.threads u) (slice_get threads u) x at waits (each u)))
    by (inr other) = subst (IsOrWaited o (slice_get r.threads v)) (sym (set_other threads u v y other.1)) (each v)

pub some_more : (o u : ℕ) (old now new : ProgramState) → NotifiesSome o old now → NotifiesFirst o now new (Some u) → NotifiesSome o old new
some_more o u old now new some told =
    let m : Monitor = monitor_of old.monitors o in
    let first = first_of some.rest u (ap (λ (k : Monitor). slice_get k.wait_list 0) (sym some.at) ∙ told.first) in
    record {
      states = in_state;
      moved = some.moved ++ u ∷ [];
      rest = first.0;
      split = some.split ∙ ap (λ xs. some.moved ++ xs) first.1 ∙ sym (append_assoc some.moved (u ∷ []) first.0);
      at = told.becomes.changed ∙ ap after_notify some.at
          ∙ ap (λ xs. record m { entry_list = (m.entry_list ++ some.moved) ++ take 1 xs; wait_list = drop 1 xs }) first.1
          ∙ ap (λ xs. record m { entry_list = xs; wait_list = first.0 }) (append_assoc m.entry_list some.moved (u ∷ []));
      others = λ p ne. told.becomes.others p ne ∙ some.others p ne;
      threads = told.becomes.threads ∙ some.threads;
      spare = told.spare ∙ some.spare;
    }
  where
    in_state : (r : State) (out : ℕ → Bool) → IsState old r out → SomeNotified o r out new
    in_state r out is =
        let s = some.states r out is in
        let q : State = record r { threads = s.threads } in
        let e = told.notified q out s.is in
        let there = waiter_there o q u (slice_get s.threads u) refl e.waited in
        let x : JavaThread = there.0 in
        record {
          threads = slice_set s.threads u (thread_woken Notified x);
          is = subst (λ k. IsState new k out) (thread_is q u (thread_woken Notified) x there.1) e.is;
          each = more_each o u r s.threads x there.1 there.2 s.each;
        }

-- ---- all

notified_so : (o : ℕ) (x : JavaThread) (b : Bool) → thread_waits_on o x ≡ b → notified_on o x ≡ (if b then thread_woken Notified x else x)
notified_so o x b e = ap (λ c. if c then thread_woken Notified x else x) e

all_each : (o : ℕ) (r : State) (threads : List JavaThread) → list_any (thread_waits_on o) threads ≡ false → (u : ℕ) → IsOrWaited o (slice_get r.threads u) (slice_get threads u)
    → (before : Option JavaThread) → slice_get r.threads u ≡ before → slice_get threads u ≡ slice_get (map (notified_on o) r.threads) u
all_each o r threads none u (is_same e) None at = e ∙ at ∙ sym (map_none (notified_on o) r.threads u at)
all_each o r threads none u (is_same e) (Some x) at =
    e ∙ at ∙ ap (λ (y : JavaThread). Some y) (sym (notified_so o x false (none_at (thread_waits_on o) threads u x (e ∙ at) none))) ∙ sym (map_there (notified_on o) r.threads u x at)
all_each o r threads none u (has_waited v was on e) before at =
    e ∙ ap (λ (y : JavaThread). Some y) (sym (notified_so o v true on)) ∙ sym (map_there (notified_on o) r.threads u v was)

pub all_notified : (o : ℕ) (old now new : ProgramState) → NotifiesSome o old now → NotifiesFirst o now new None → NotifiesAll o old new
all_notified o old now new some told =
    let m : Monitor = monitor_of old.monitors o in
    let empty : some.rest ≡ [] = none_of some.rest (ap (λ (k : Monitor). slice_get k.wait_list 0) (sym some.at) ∙ told.first) in
    let whole : m.wait_list ≡ some.moved = some.split ∙ ap (λ xs. some.moved ++ xs) empty ∙ append-nil some.moved in
    record {
      notified = λ r out is.
          let s = some.states r out is in
          let q : State = record r { threads = s.threads } in
          let e = told.notified q out s.is in
          subst (λ ts. IsState new (record r { threads = ts }) out)
          (same_lists_at s.threads (map (notified_on o) r.threads) (λ u. all_each o r s.threads e.none u (s.each u) (slice_get r.threads u) refl)) e.is;
      becomes = record {
        changed = told.becomes.changed ∙ ap after_notify some.at
            ∙ ap (λ xs. record m { entry_list = (m.entry_list ++ some.moved) ++ take 1 xs; wait_list = drop 1 xs }) empty
            ∙ ap (λ xs. record m { entry_list = xs; wait_list = [] }) (append-nil (m.entry_list ++ some.moved) ∙ ap (λ ys. m.entry_list ++ ys) (sym whole));
        others = λ p ne. told.becomes.others p ne ∙ some.others p ne;
        threads = told.becomes.threads ∙ some.threads;
        spare = let e : new.monitors.spare ≡ old.monitors.spare = told.spare ∙ some.spare in omega (arith, e);
      };
    }

-- ---- the answer

pub notify_all_unowned : (t o : ℕ) (a : ProgramState) → owns_in a.monitors t o ≡ false → AnswersSo (asks_notify_all o) t a a (replies.Throws exceptions.IllegalMonitorStateException)
notify_all_unowned t o a unowned =
    throws_same (asks_notify_all o) t o a exceptions.IllegalMonitorStateException
    (λ w r out k is. ap (λ b. if b then goes (with_all_notified r o) t k else raised w r t exceptions.IllegalMonitorStateException) (not_owned a t o false r out is unowned))

each_notified : (o v : ℕ) (r : State) (before : Option JavaThread) → slice_get r.threads v ≡ before → (b : Bool) → ((x : JavaThread) → before ≡ Some x → thread_waits_on o x ≡ b)
    → StaysOrIsNotified o (slice_get r.threads v) (slice_get (map (notified_on o) r.threads) v)
each_notified o v r None at b tells =
    stays (stays_same (slice_get r.threads v) (slice_get (map (notified_on o) r.threads) v) (map_none (notified_on o) r.threads v at ∙ sym at))
each_notified o v r (Some x) at true tells =
    is_notified x (notified_on o x) at (map_there (notified_on o) r.threads v x at) (tells x refl)
    (ap (λ (k : JavaThread). k.thread.status) (notified_so o x true (tells x refl)))
each_notified o v r (Some x) at false tells =
    stays (stays_same (slice_get r.threads v) (slice_get (map (notified_on o) r.threads) v)
    (map_there (notified_on o) r.threads v x at ∙ ap (λ (y : JavaThread). Some y) (notified_so o x false (tells x refl)) ∙ sym at))

abbrev waits_of_row : (o : ℕ) → Option JavaThread → Bool
waits_of_row o None = false
waits_of_row o (Some x) = thread_waits_on o x

all_goes : (t o : ℕ) (a new : ProgramState) (w : World) (r : State) (out : ℕ → Bool) (frames : List Frame) → owns_in a.monitors t o ≡ true → NotifiesAll o a new → IsState a r out → IsInPhase r t Run frames
    → GoesFrom w (asks_notify_all o) outcomes.Done t o frames r out new
all_goes t o a new w r out frames owned told is at =
    let owner = not_owned a t o true r out is owned in
    let x : JavaThread = at.thread in
    record {
      state = with_all_notified r o;
      same = λ k. ap (λ b. if b then goes (with_all_notified r o) t k else raised w r t exceptions.IllegalMonitorStateException) owner;
      is = told.notified r out is;
      runs = record {
        thread = x;
        at = map_there (notified_on o) r.threads t x at.at ∙ ap (λ (y : JavaThread). Some y) (notified_so o x false (ap (status_waits_on o) at.status));
        status = at.status;
        has = at.has;
      };
      others = λ q others. notifies o (record {
        threads = λ v ne. notified_then o (slice_get r.threads v) (slice_get (map (notified_on o) r.threads) v) (slice_get q.threads v)
            (each_notified o v r (slice_get r.threads v) refl (waits_of_row o (slice_get r.threads v)) (λ y e. ap (waits_of_row o) (sym e))) (others.threads v ne);
        owners = others.owners;
        now = others.now;
        owned = owned_not_free r t o owner;
      });
    }

pub notify_all_goes : (t o : ℕ) (a new : ProgramState) → owns_in a.monitors t o ≡ true → NotifiesAll o a new → AnswersSo (asks_notify_all o) t a new (replies.Goes outcomes.Done)
notify_all_goes t o a new owned told =
    record {
      monitor = o;
      answers = record {
        first = tt;
        is = λ w r out frames is here at. all_goes t o a new w r out frames owned told is at;
      };
      lists = notifies_all o told.becomes;
    }

-- ---- by what the loop looks at

pub goes_on_with : (o : ℕ) (old now new : ProgramState) (waiter : Option ℕ) → NotifiesSome o old now → NotifiesFirst o now new waiter → is_some waiter ≡ true → NotifiesSome o old new
goes_on_with o old now new None some told e = absurd cc
goes_on_with o old now new (Some u) some told e = some_more o u old now new some told

pub ends_with : (o : ℕ) (old now new : ProgramState) (waiter : Option ℕ) → NotifiesSome o old now → NotifiesFirst o now new waiter → is_some waiter ≡ false → NotifiesAll o old new
ends_with o old now new None some told e = all_notified o old now new some told
ends_with o old now new (Some u) some told e = absurd cc
