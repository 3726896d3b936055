-- What the schedule of carriers sees of a state, and the reference machine as the schedule has it.
use Rattle.std.specs.Prelude.{ℕ, zero, suc, Bool, true, false, not, List, Option, Some, None, is_some, filter, length, ◌&&◌, if◌then◌else◌, nat_lt, slice_get}
use Rattle.std.specs.Option.{option_map_or}
use Rattle.jvm_words.specs.Words.{is_zero}
use Rattle.vthread_state.specs.declared.phase.Phase.{Phase}
use Rattle.vthread_state.specs.declared.phase.Phase.TheVariants.{Entering, Waiting, Reenter, Parked, Asleep, Joining}
use Rattle.vthread_state.specs.declared.thread.Status.{Status}
use Rattle.vthread_state.specs.declared.thread.Status.TheVariants.{New, Live, Done}
use Rattle.schedule_model.specs.Look.{Look, Spot, absent, unstarted, in_no_list, in_wait_list, in_entry_list, done}
use Rattle.schedule_model.specs.Run.{Machine}
use Rattle.schedule_model.specs.Stalled.{is_stalled as is_stalled_look}
use Rattle.link_model.specs.World.{World}
use Rattle.state_model.specs.Frames.{Frame}
use Rattle.ref_model.specs.Setting.{Setting}
use Rattle.ref_model.specs.State.{JavaThread, State, is_interrupted}
use Rattle.ref_model.specs.Members.{is_hold}
use Rattle.ref_model.specs.Ending.{ending}
use Rattle.ref_model.specs.Waiting.{at_time}
use Rattle.ref_model.specs.Requests.{Request, yields, creates, sleeps, reads_clock}
use Rattle.ref_model.specs.Starting.{may_create}
use Rattle.ref_model.specs.Resuming.{next_asks}
use Rattle.ref_model.specs.Step.{enabled}
use Rattle.ref_model.specs.Run.{steps, after_steps}
use Rattle.ref_model.specs.Entries.{is_grouped}

-- ---- one thread

-- the lists of monitors that a live thread in a phase is in
abbrev pub spot_in : Phase → Spot
spot_in (Entering o) = in_entry_list o
spot_in (Waiting o count deadline) = in_wait_list o
spot_in (Reenter o count wake) = in_entry_list o
spot_in phase = in_no_list

abbrev pub spot_of : Status → Spot
spot_of New = unstarted
spot_of (Live phase) = spot_in phase
spot_of Done = done

-- the time at which what a thread in a phase waits for ends
abbrev pub phase_deadline : Phase → Option ℕ
phase_deadline (Waiting o count deadline) = deadline
phase_deadline (Parked deadline) = deadline
phase_deadline (Asleep deadline) = Some deadline
phase_deadline (Joining u deadline) = deadline
phase_deadline phase = None

abbrev pub deadline_in : Status → Option ℕ
deadline_in New = None
deadline_in (Live phase) = phase_deadline phase
deadline_in Done = None

-- a frame of jvt.Native.hold pins its thread (JEP 444)
abbrev pub is_pin : World → Frame → Bool
is_pin w f = option_map_or (is_hold w) (slice_get w.methods f.method) false

abbrev pub pins_of : World → List Frame → ℕ
pins_of w frames = length (filter (is_pin w) frames)

abbrev pub is_pinned : World → JavaThread → Bool
is_pinned w x = nat_lt 0 (pins_of w x.frames)

-- ---- a state

abbrev pub of_thread : {A : Type 0} → State → ℕ → (JavaThread → A) → A → A
of_thread r t f otherwise = option_map_or f (slice_get r.threads t) otherwise

abbrev pub look_of : World → State → Look
look_of w r = record {
  ended = is_some (ending r);
  now = r.now;
  threads = length r.threads;
  spot = λ t. of_thread r t (λ x. spot_of x.thread.status) absent;
  enabled = λ t. enabled r t;
  pinned = λ t. of_thread r t (is_pinned w) false;
  deadline = λ t. of_thread r t (λ x. deadline_in x.thread.status) None;
  owned = λ o. is_some (r.owners o);
}

-- No thread can go on, and no time will change that.
abbrev pub is_stalled : World → State → Bool
is_stalled w r = is_stalled_look (look_of w r)

-- ---- what the next step of a thread does

-- it reads the clock
abbrev pub reads_clock_next : World → State → ℕ → Bool
reads_clock_next w r t = next_asks w r t reads_clock

-- it is a yield: Thread.yield, and a sleep of 0 that isn't interrupted
abbrev pub is_yield : Bool → Request → Bool
is_yield interrupted yields = true
is_yield interrupted (sleeps millis) = not interrupted && is_zero millis
is_yield interrupted q = false

abbrev pub yields_next : World → State → ℕ → Bool
yields_next w r t = next_asks w r t (is_yield (is_interrupted r t))

-- it would make one more thread than there may be
abbrev pub is_create : Request → Bool
is_create (creates kind object name) = true
is_create q = false

abbrev pub lacks_threads_next : World → State → ℕ → Bool
lacks_threads_next w r t = not (may_create r) && next_asks w r t is_create

-- ---- the reference machine under a schedule

abbrev pub grouped_steps : Setting → State → ℕ → ℕ → Option ℕ → Option State
grouped_steps p r t n pick = if is_grouped p.world r t n then after_steps p r t n pick else None

-- whether the last of so many steps is a yield
abbrev pub yields_after : Setting → State → ℕ → ℕ → Bool
yields_after p r t zero = false
yields_after p r t (suc n) = option_map_or (λ q. yields_next p.world q t) (steps p n r t) false

abbrev pub machine_from : Setting → State → Machine State
machine_from p first = record {
  opening = first;
  look = look_of p.world;
  steps = grouped_steps p;
  yields = yields_after p;
  tick = at_time;
}
