-- What is answered to requests.
use Rattle.std.specs.Prelude.{◌≡◌, ℕ, Option, None, Result, Ok, Err}
use Rattle.link_model.specs.World.{World}
use Rattle.ref_model.specs.Asking.{Asking, goes, gives_back, waits}
use Rattle.ref_model.specs.Requesting.{asked}
use Rattle.ref_model.specs.Requests.{request_of}
use Rattle.ref_model.specs.State.{State}
use Rattle.ref_model.specs.Throwing.{raised}
use Rattle.ref_model.specs.declared.request.ThreadRequest.{ThreadRequest}
use Rattle.ref_run.specs.declared.fault.Fault.{Fault}
use Rattle.ref_run.specs.declared.fault.Fault.TheVariants as faults
use Rattle.ref_run.specs.declared.reply.Reply.{Reply}
use Rattle.ref_run.specs.declared.reply.Reply.TheVariants as replies
use Rattle.ref_run.specs.States.{frames_of}

-- what a reply makes of the thread that asked
abbrev pub replied : World → State → ℕ → Asking → Reply → Option State
replied w r t a replies.Goes = goes r t a
replied w r t a (replies.Gives v) = gives_back r t a v
replied w r t a (replies.Throws e) = raised w r t e
replied w r t a (replies.Waits phase) = waits r t phase

-- A request of thread t comes to this reply, given in this state, in which the thread has the frames that it had.
pub record IsAnswered (w : World) (q : ThreadRequest) (t : ℕ) (r : State) (reply : Reply) (s : State) : Type 0 where
  pub same : (a : Asking) → asked w r t a (request_of q) ≡ replied w s t a reply
  pub frames : frames_of s t ≡ frames_of r t

-- it comes to a reply; or the definitions have no step there
abbrev pub Answers : World → ThreadRequest → ℕ → State → Result Reply Fault → State → Type 0
Answers w q t r (Ok reply) s = IsAnswered w q t r reply s
Answers w q t r (Err faults.NoStep) s = (a : Asking) → asked w r t a (request_of q) ≡ None
Answers w q t r (Err faults.NoMemory) s = Unit {0}

-- The same of a request after which the state is the old one.
abbrev pub Tells : World → ThreadRequest → ℕ → State → Reply → Type 0
Tells w q t r reply = (a : Asking) → asked w r t a (request_of q) ≡ replied w r t a reply
