-- A row of the table is changed: the daemon flag, or the name.
use Rattle.std.proofs.Common.{◌≡◌, ◌≢◌, ◌⊎◌, inl, inr, eqb, ℕ, zero, suc, ◌<◌, Bool, true, false, List, [], ◌∷◌, length, Some, refl, ap, sym, subst, ◌∙◌, arith}
use Rattle.std.specs.Prelude.{not, slice_get, slice_set, ◌&&◌, if◌then◌else◌}
use Rattle.std.specs.Option.{option_map_or}
use Rattle.std.proofs.lemmas.Bool.Decides.{eqb_tells}
use Rattle.items.proofs.Binds.{bind_is}
use Rattle.vthread_state.specs.declared.phase.Phase.TheVariants.{Run}
use Rattle.vthread_state.specs.declared.thread.Thread.{Thread}
use Rattle.vthread_state.specs.Threads.{Threads, thread_at, with_thread}
use Rattle.link_model.specs.World.{World}
use Rattle.state_model.specs.Frames.{Frame}
use Rattle.ref_model.specs.declared.exception.Exception.TheVariants as exceptions
use Rattle.ref_model.specs.Asking.{Asking, goes}
use Rattle.ref_model.specs.Ending.{is_live}
use Rattle.ref_model.specs.Looks.{deadline_in}
use Rattle.ref_model.specs.Requesting.{asked, daemon_set, is_virtual, with_daemon, with_name}
use Rattle.ref_model.specs.Requests.{request_of}
use Rattle.ref_model.specs.State.{JavaThread, State, with_thread as with_thread_in}
use Rattle.ref_model.specs.Throwing.{raised}
use Rattle.ref_model.specs.declared.request.ThreadRequest.{ThreadRequest}
use Rattle.ref_model.specs.declared.request.ThreadRequest.TheVariants as requests
use Rattle.ref_model.proofs.StateLaws.{get_set}
use Rattle.schedule_soundness.specs.PutLaws.{Stays, is_kept, OthersStay}
use Rattle.schedule_soundness.proofs.ThreadLists.{set_other, same_some}
use Rattle.program_state.specs.declared.reply.Reply.TheVariants as replies
use Rattle.program_state.specs.declared.state.ProgramState.{ProgramState}
use Rattle.program_state.specs.Replies.{Answers}
use Rattle.program_state.proofs.MonitorLaws.{same_lists}
use Rattle.program_state.specs.States.{IsInPhase, IsState}
use Rattle.program_state.proofs.StateLaws.{own_memory, row_back, rows_set, stays_same, still_kept, thread_changed}
use Rattle.program_state.proofs.RowLaws.{told_answers, told_by}

-- A change of a thread that leaves it where it is.
pub record KeepsPlace (change : JavaThread → JavaThread) : Type 0 where
  pub status : (x : JavaThread) → (change x).thread.status ≡ x.thread.status
  pub permit : (x : JavaThread) → (change x).permit ≡ x.permit
  pub interrupted : (x : JavaThread) → (change x).interrupted ≡ x.interrupted
  pub frames : (x : JavaThread) → (change x).frames ≡ x.frames

-- ---- what is so afterwards

pub changed_runs : (r : State) (t u : ℕ) (x y : JavaThread) (frames : List Frame) → slice_get r.threads u ≡ Some x → y.thread.status ≡ x.thread.status → y.frames ≡ x.frames
    → IsInPhase r t Run frames → IsInPhase (record r { threads = slice_set r.threads u y }) t Run frames
changed_runs r t u x y frames at status same is = by (eqb_tells t u)
  where
    by : ((eqb t u ≡ true) × (t ≡ u)) ⊎ ((eqb t u ≡ false) × (t ≢ u)) → IsInPhase (record r { threads = slice_set r.threads u y }) t Run frames
    by (inl me) =
        let own : is.thread ≡ x = same_some (slice_get r.threads t) is.thread x is.at (ap (slice_get r.threads) me.1 ∙ at) in
        record {
          thread = y;
          at = ap (λ n. slice_get (slice_set r.threads u y) n) me.1 ∙ get_set r.threads u x y at;
          status = status ∙ ap (λ (z : JavaThread). z.thread.status) (sym own) ∙ is.status;
          has = same ∙ ap (λ (z : JavaThread). z.frames) (sym own) ∙ is.has;
        }
    by (inr other) = record { thread = is.thread; at = set_other r.threads u t y other.1 ∙ is.at; status = is.status; has = is.has }

changed_others : (r : State) (t u : ℕ) (x y : JavaThread) → slice_get r.threads u ≡ Some x → y.thread.status ≡ x.thread.status → y.permit ≡ x.permit → y.interrupted ≡ x.interrupted
    → OthersStay t r (record r { threads = slice_set r.threads u y })
changed_others r t u x y at status permit interrupted =
    record { threads = λ k ne. by k (eqb_tells k u); owners = refl; now = refl }
  where
    by : (k : ℕ) → ((eqb k u ≡ true) × (k ≡ u)) ⊎ ((eqb k u ≡ false) × (k ≢ u)) → Stays (slice_get r.threads k) (slice_get (slice_set r.threads u y) k)
    by k (inl me) =
        is_kept x y (ap (slice_get r.threads) me.1 ∙ at) (ap (λ n. slice_get (slice_set r.threads u y) n) me.1 ∙ get_set r.threads u x y at) status permit interrupted
    by k (inr other) = stays_same (slice_get r.threads k) (slice_get (slice_set r.threads u y) k) (set_other r.threads u k y other.1)

-- A request that changes a row and goes on was answered.
pub change_answers : (w : World) (request : ThreadRequest) (t u : ℕ) (a : ProgramState) (row : Thread) (change : JavaThread → JavaThread) (f : Thread → Thread) → thread_at a.threads u ≡ Some row
    → ((x : JavaThread) → x.thread ≡ row → (change x).thread ≡ f x.thread) → KeepsPlace change
    → ((r : State) (x : JavaThread) (k : Asking) → slice_get r.threads u ≡ Some x → x.thread ≡ row → asked w r t k (request_of request) ≡ goes (with_thread_in r u change) t k)
    → Answers w request (OthersStay t) t a (record a { threads = with_thread a.threads u f }) replies.Goes
change_answers w request t u a row change f there rows keeps each r out frames is at =
    let x = row_back a.threads r u row is.rows there in
    let y : JavaThread = change x.0 in
    let next : State = record r { threads = slice_set r.threads u y } in
    let made : with_thread_in r u change ≡ next = ap (λ o. option_map_or (λ z. record r { threads = slice_set r.threads u (change z) }) o r) x.1 in
    let status = keeps.status x.0 in
    let k = keeps.frames x.0 in
    let table = rows_set a.threads r u x.0 y f is.rows x.1 (rows x.0 x.2) in
    record {
      state = next;
      same = λ k. each r x.0 k x.1 x.2 ∙ ap (λ s. goes s t k) made;
      is = subst (λ q. IsState (record a { threads = with_thread a.threads u f }) q out) (own_memory a r out (slice_set r.threads u y) is)
          (thread_changed a a.memory (with_thread a.threads u f) r out u x.0 y is x.1 is.status table refl
          (record {
            lists = same_lists x.0.thread.status y.thread.status status;
            permit = keeps.permit x.0;
            interrupted = keeps.interrupted x.0;
            deadline = ap deadline_in status;
          })
          (still_kept u (out u) x.0 y (slice_get a.frozen.items u) status k));
      runs = changed_runs r t u x.0 y frames x.1 status k at;
      others = changed_others r t u x.0 y x.1 status (keeps.permit x.0) (keeps.interrupted x.0);
    }

-- ---- setDaemon

pub daemon_throws : (w : World) (t u : ℕ) (a : ProgramState) (row : Thread) (daemon : Bool) → thread_at a.threads u ≡ Some row → (is_virtual row.kind && not daemon) ≡ true
    → Answers w (requests.SetsDaemon u daemon) (OthersStay t) t a a (replies.Throws exceptions.IllegalArgumentException)
daemon_throws w t u a row daemon there e =
    told_answers w (requests.SetsDaemon u daemon) t a (replies.Throws exceptions.IllegalArgumentException)
    (told_by w (requests.SetsDaemon u daemon) t u a.threads row (replies.Throws exceptions.IllegalArgumentException) there
    (λ r x k at same. bind_is (slice_get r.threads u) (daemon_set w r t k u daemon) x (raised w r t exceptions.IllegalArgumentException) at
    (ap (λ b. if b then raised w r t exceptions.IllegalArgumentException
    else (if is_live x.thread.status then raised w r t exceptions.IllegalThreadStateException else goes (with_thread_in r u (with_daemon daemon)) t k))
    (ap (λ (z : Thread). is_virtual z.kind && not daemon) same ∙ e))))

daemon_cases : (w : World) (r : State) (t : ℕ) (k : Asking) (u : ℕ) (daemon : Bool) (x : JavaThread) (row : Thread) → x.thread ≡ row → (is_virtual row.kind && not daemon) ≡ false
    → daemon_set w r t k u daemon x ≡ (if is_live x.thread.status then raised w r t exceptions.IllegalThreadStateException else goes (with_thread_in r u (with_daemon daemon)) t k)
daemon_cases w r t k u daemon x row same e =
    ap (λ b. if b then raised w r t exceptions.IllegalArgumentException
    else (if is_live x.thread.status then raised w r t exceptions.IllegalThreadStateException else goes (with_thread_in r u (with_daemon daemon)) t k))
    (ap (λ (z : Thread). is_virtual z.kind && not daemon) same ∙ e)

pub daemon_of_live : (w : World) (t u : ℕ) (a : ProgramState) (row : Thread) (daemon : Bool) → thread_at a.threads u ≡ Some row → (is_virtual row.kind && not daemon) ≡ false → is_live row.status ≡ true
    → Answers w (requests.SetsDaemon u daemon) (OthersStay t) t a a (replies.Throws exceptions.IllegalThreadStateException)
daemon_of_live w t u a row daemon there e live =
    told_answers w (requests.SetsDaemon u daemon) t a (replies.Throws exceptions.IllegalThreadStateException)
    (told_by w (requests.SetsDaemon u daemon) t u a.threads row (replies.Throws exceptions.IllegalThreadStateException) there
    (λ r x k at same. bind_is (slice_get r.threads u) (daemon_set w r t k u daemon) x (raised w r t exceptions.IllegalThreadStateException) at
    (daemon_cases w r t k u daemon x row same e ∙ ap (λ b. if b then raised w r t exceptions.IllegalThreadStateException else goes (with_thread_in r u (with_daemon daemon)) t k)
    (ap (λ (z : Thread). is_live z.status) same ∙ live))))

pub daemon_is_set : (w : World) (t u : ℕ) (a : ProgramState) (row : Thread) (daemon after : Bool) → thread_at a.threads u ≡ Some row → (is_virtual row.kind && not daemon) ≡ false
    → is_live row.status ≡ false → after ≡ (if is_virtual row.kind then row.daemon else daemon)
    → Answers w (requests.SetsDaemon u daemon) (OthersStay t) t a (record a { threads = with_thread a.threads u (λ thread. record thread { daemon = after }) }) replies.Goes
daemon_is_set w t u a row daemon after there e idle is =
    change_answers w (requests.SetsDaemon u daemon) t u a row (with_daemon daemon) (λ thread. record thread { daemon = after }) there
    (λ x same. ap (λ b. record x.thread { daemon = b }) (ap (λ (z : Thread). if is_virtual z.kind then z.daemon else daemon) same ∙ sym is))
    (record { status = λ x. refl; permit = λ x. refl; interrupted = λ x. refl; frames = λ x. refl })
    (λ r x k at same. bind_is (slice_get r.threads u) (daemon_set w r t k u daemon) x (goes (with_thread_in r u (with_daemon daemon)) t k) at
    (daemon_cases w r t k u daemon x row same e ∙ ap (λ b. if b then raised w r t exceptions.IllegalThreadStateException else goes (with_thread_in r u (with_daemon daemon)) t k)
    (ap (λ (z : Thread). is_live z.status) same ∙ idle)))

-- ---- setName

pub name_is_set : (w : World) (t u name : ℕ) (a : ProgramState) (row : Thread) → thread_at a.threads u ≡ Some row
    → Answers w (requests.SetsName u name) (OthersStay t) t a (record a { threads = with_thread a.threads u (λ thread. record thread { name = name }) }) replies.Goes
name_is_set w t u name a row there =
    change_answers w (requests.SetsName u name) t u a row (with_name name) (λ thread. record thread { name = name }) there (λ x same. refl)
    (record { status = λ x. refl; permit = λ x. refl; interrupted = λ x. refl; frames = λ x. refl }) (λ r x k at same. refl)

-- ---- a row of the table has a number below that of the rows

within : (xs : List Thread) (u : ℕ) (x : Thread) → slice_get xs u ≡ Some x → u < length xs
within [] u x e = absurd cc
within (y ∷ xs) zero x e = omega arith
within (y ∷ xs) (suc u) x e = let rest = within xs u x e in omega arith

pub row_within : (a : Threads) (u : ℕ) (row : Thread) → thread_at a u ≡ Some row → u < length a.threads
row_within a u row there = within a.threads u row there
