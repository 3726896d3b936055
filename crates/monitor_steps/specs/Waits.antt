-- Threads that begin to wait on a monitor, and those that are notified (JLS 17.2), as the parts of a state have it.
use Rattle.std.specs.Prelude.{◌≡◌, ◌≢◌, ◌++◌, ℕ, ℤ, Bool, true, false, List, Option, Some, None, slice_get}
use Rattle.vthread_state.specs.declared.phase.Phase.TheVariants.{Run, Reenter, Waiting}
use Rattle.vthread_state.specs.declared.phase.Wake.TheVariants.{Notified}
use Rattle.vthread_state.specs.declared.thread.Status.TheVariants.{Live}
use Rattle.vthread_state.specs.Threads.{status_at, with_status as with_status_at}
use Rattle.link_model.specs.World.{World}
use Rattle.state_model.specs.Frames.{Frame}
use Rattle.monitors.specs.Monitors.{Becomes, after_notify, after_notify_all, monitor_of}
use Rattle.ref_model.specs.declared.exception.Exception.{Exception}
use Rattle.ref_model.specs.Asking.{Asking}
use Rattle.ref_model.specs.Monitors.{owns, times_entered}
use Rattle.ref_model.specs.Requesting.{asked, wait_begun}
use Rattle.ref_model.specs.Requests.{waits_on}
use Rattle.ref_model.specs.State.{JavaThread, State, with_owner, with_status}
use Rattle.ref_model.specs.Waiting.{has_waiter, is_waiting_on, thread_waits_on, thread_woken, with_all_notified, with_notified}
use Rattle.program_state.specs.declared.state.ProgramState.{ProgramState}
use Rattle.program_state.specs.Timers.{IsTimerCleared}
use Rattle.program_state.specs.Monitors.{ListsMove}
use Rattle.program_state.specs.States.{IsInPhase, IsState}
use Rattle.monitor_steps.specs.declared.reply.MonitorReply.TheVariants as replies
use Rattle.monitor_steps.specs.Replies.{AnswersSo}

-- ---- wait

-- Thread t may wait on a monitor, and nothing has changed.
pub record MayWait (t o : ℕ) (time : Option ℤ) (old new : ProgramState) : Type 0 where
  pub same : new ≡ old
  pub begins : (w : World) (r : State) (out : ℕ → Bool) (a : Asking) → IsState old r out →
      asked w r t a (waits_on o time) ≡ wait_begun r t o time

-- It may wait on it, or its wait is answered with an exception.
abbrev pub IsRefusal : ℕ → ℕ → Option ℤ → ProgramState → ProgramState → Option Exception → Type 0
IsRefusal t o time old new None = MayWait t o time old new
IsRefusal t o time old new (Some e) = AnswersSo (waits_on o time) t old new (replies.Throws e)

-- Thread t, which owned the monitor, left it wholly and waits to be notified, in a state whose parts are these.
pub record WaitsIn (t o : ℕ) (deadline : Option ℕ) (r : State) (out : ℕ → Bool) (new : ProgramState) : Type 0 where
  pub owned : owns r t o ≡ true
  pub is : IsState new (with_status (with_owner r o None) t (Live (Waiting o (times_entered (r.owners o)) deadline))) out

-- So it is in each state whose parts were the old ones, in which it runs. This is the first thread in line for the monitor, if there is one.
pub record WaitsTo (t o : ℕ) (deadline : Option ℕ) (old new : ProgramState) (first : Option ℕ) : Type 0 where
  pub waits : (r : State) (out : ℕ → Bool) (frames : List Frame) → IsState old r out → out t ≡ true → IsInPhase r t Run frames →
      WaitsIn t o deadline r out new
  pub first_is : first ≡ slice_get (monitor_of new.monitors o).entry_list 0
  pub lists : ListsMove old.monitors new.monitors

-- ---- notify

-- Thread u waited on a monitor, and has been notified: it is to take the monitor as often as it had entered it, and has no deadline any more.
pub record IsNotifiedThere (u : ℕ) (old new : ProgramState) : Type 0 where
  pub monitor : ℕ
  pub count : ℕ
  pub deadline : Option ℕ
  pub waited : status_at old.threads u ≡ Some (Live (Waiting monitor count deadline))
  pub timer : IsTimerCleared u old.wheel old.keys.items new.wheel new.keys.items
  pub state : new ≡ record old {
    threads = with_status_at old.threads u (Live (Reenter monitor count Notified));
    wheel = new.wheel;
    keys = new.keys;
  }

-- Thread u waited on the monitor, and is in line for it.
pub record WaitEnds (o u : ℕ) (r : State) (out : ℕ → Bool) (new : ProgramState) : Type 0 where
  pub waited : is_waiting_on r o u ≡ true
  pub is : IsState new (with_notified r u) out

-- No thread waits on it.
pub record NoneWaits (o : ℕ) (r : State) (out : ℕ → Bool) (new : ProgramState) : Type 0 where
  pub none : has_waiter r o ≡ false
  pub is : IsState new r out

abbrev pub IsNotified : ℕ → Option ℕ → State → (ℕ → Bool) → ProgramState → Type 0
IsNotified o (Some u) r out new = WaitEnds o u r out new
IsNotified o None r out new = NoneWaits o r out new

-- The first thread that waited on a monitor was notified, if there was one, in each state whose parts were the old ones.
pub record NotifiesFirst (o : ℕ) (old new : ProgramState) (waiter : Option ℕ) : Type 0 where
  pub first : slice_get (monitor_of old.monitors o).wait_list 0 ≡ waiter
  pub notified : (r : State) (out : ℕ → Bool) → IsState old r out → IsNotified o waiter r out new
  pub becomes : Becomes old.monitors new.monitors o (after_notify (monitor_of old.monitors o))
  pub spare : new.monitors.spare ≡ old.monitors.spare

-- ---- notifyAll

-- a thread is as it was, or waited on the monitor and has been notified
pub data IsOrWaited (o : ℕ) (before now : Option JavaThread) : Type 0 where
  is_same : now ≡ before → IsOrWaited o before now
  has_waited : (x : JavaThread) → before ≡ Some x → thread_waits_on o x ≡ true → now ≡ Some (thread_woken Notified x) → IsOrWaited o before now

-- Some threads that waited on the monitor were notified, in a state whose parts are these.
pub record SomeNotified (o : ℕ) (r : State) (out : ℕ → Bool) (now : ProgramState) : Type 0 where
  pub threads : List JavaThread
  pub is : IsState now (record r { threads = threads }) out
  pub each : (u : ℕ) → IsOrWaited o (slice_get r.threads u) (slice_get threads u)

-- So it is in each state whose parts were the old ones: the first of those that waited came last in line, in their order.
pub record NotifiesSome (o : ℕ) (old now : ProgramState) : Type 0 where
  pub states : (r : State) (out : ℕ → Bool) → IsState old r out → SomeNotified o r out now
  pub moved : List ℕ
  pub rest : List ℕ
  pub split : (monitor_of old.monitors o).wait_list ≡ moved ++ rest
  pub at : monitor_of now.monitors o ≡ record (monitor_of old.monitors o) {
    entry_list = (monitor_of old.monitors o).entry_list ++ moved;
    wait_list = rest;
  }
  pub others : (p : ℕ) → p ≢ o → monitor_of now.monitors p ≡ monitor_of old.monitors p
  pub threads : now.monitors.threads ≡ old.monitors.threads
  pub spare : now.monitors.spare ≡ old.monitors.spare

-- All threads that waited on it were notified.
pub record NotifiesAll (o : ℕ) (old new : ProgramState) : Type 0 where
  pub notified : (r : State) (out : ℕ → Bool) → IsState old r out → IsState new (with_all_notified r o) out
  pub becomes : Becomes old.monitors new.monitors o (after_notify_all (monitor_of old.monitors o))
