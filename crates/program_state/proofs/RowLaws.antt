-- What the table of threads answers.
use Rattle.std.proofs.Common.{◌≡◌, ℕ, Bool, Some, refl, ap, ◌∙◌}
use Rattle.std.specs.Prelude.{slice_get}
use Rattle.items.specs.Options.{◌>>=◌}
use Rattle.items.proofs.Binds.{bind_is}
use Rattle.instruction_rows.specs.declared.value.Value.{Value}
use Rattle.vthread_state.specs.declared.thread.Thread.{Thread}
use Rattle.vthread_state.specs.Threads.{Threads, thread_at}
use Rattle.link_model.specs.World.{World}
use Rattle.ref_model.specs.Asking.{Asking, gives_back}
use Rattle.ref_model.specs.Requesting.{asked}
use Rattle.ref_model.specs.Requests.{request_of}
use Rattle.ref_model.specs.State.{JavaThread, State}
use Rattle.ref_model.specs.declared.request.ThreadRequest.{ThreadRequest}
use Rattle.schedule_soundness.specs.PutLaws.{OthersStay}
use Rattle.program_state.specs.declared.reply.Reply.{Reply}
use Rattle.program_state.specs.declared.reply.Reply.TheVariants as replies
use Rattle.program_state.specs.declared.state.ProgramState.{ProgramState}
use Rattle.program_state.specs.Replies.{Answers, IsTold, replied}
use Rattle.program_state.specs.States.{IsState}
use Rattle.program_state.proofs.StateLaws.{row_back, others_same}

-- What is asked of a thread is answered by its row.
pub told_by : (w : World) (request : ThreadRequest) (t u : ℕ) (table : Threads) (row : Thread) (reply : Reply) → thread_at table u ≡ Some row
    → ((r : State) (x : JavaThread) (a : Asking) → slice_get r.threads u ≡ Some x → x.thread ≡ row → asked w r t a (request_of request) ≡ replied w r t a reply)
    → IsTold w request t table reply
told_by w request t u table row reply there each r own a rows at = let x = row_back table r u row rows there in each r x.0 a x.1 x.2

-- a value that the row gives
pub told_value : (w : World) (request : ThreadRequest) (t u : ℕ) (table : Threads) (row : Thread) (value : Thread → Value) → thread_at table u ≡ Some row
    → ((r : State) (a : Asking) → asked w r t a (request_of request) ≡ (slice_get r.threads u >>= λ x. gives_back r t a (value x.thread)))
    → IsTold w request t table (replies.Gives (value row))
told_value w request t u table row value there is =
    told_by w request t u table row (replies.Gives (value row)) there
    (λ r x a at same. is r a ∙ bind_is (slice_get r.threads u) (λ x. gives_back r t a (value x.thread)) x (gives_back r t a (value row)) at (ap (λ z. gives_back r t a (value z)) same))

-- ---- nothing has changed

-- a request is answered by the parts, which stay
pub answers_same : (w : World) (request : ThreadRequest) (t : ℕ) (a : ProgramState) (reply : Reply)
    → ((r : State) (out : ℕ → Bool) (x : JavaThread) (k : Asking) → IsState a r out → slice_get r.threads t ≡ Some x → asked w r t k (request_of request) ≡ replied w r t k reply)
    → Answers w request (OthersStay t) t a a reply
answers_same w request t a reply each r out frames is at =
    record {
      state = r;
      same = λ k. each r out at.thread k is at.at;
      is = is;
      runs = at;
      others = others_same t r r (λ u ne. refl) refl refl;
    }

pub told_answers : (w : World) (request : ThreadRequest) (t : ℕ) (a : ProgramState) (reply : Reply) → IsTold w request t a.threads reply → Answers w request (OthersStay t) t a a reply
told_answers w request t a reply told = answers_same w request t a reply (λ r out x k is at. told r x k is.rows at)

-- what others see of it may be said otherwise
pub answers_so : (w : World) (request : ThreadRequest) (t : ℕ) (a new : ProgramState) (reply : Reply) (first last : State → State → Type 0) → ((r q : State) → first r q → last r q)
    → Answers w request first t a new reply → Answers w request last t a new reply
answers_so w request t a new reply first last so answers r out frames is at =
    let h = answers r out frames is at in record { state = h.state; same = h.same; is = h.is; runs = h.runs; others = so r h.state h.others }
