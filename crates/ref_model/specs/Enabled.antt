-- Which threads may step (JLS 17, `Thread.State`; own).
use Rattle.std.specs.Prelude.{ℕ, Bool, true, false, Some, is_none, ◌&&◌, ◌||◌, slice_get}
use Rattle.std.specs.Option.{option_map_or}
use Rattle.vthread_state.specs.declared.phase.Phase.{Phase}
use Rattle.vthread_state.specs.declared.phase.Phase.TheVariants.{Run, Throwing, Entering, Waiting, Reenter, Parked, Asleep, Joining}
use Rattle.vthread_state.specs.declared.thread.Status.{Status}
use Rattle.vthread_state.specs.declared.thread.Status.TheVariants.{New, Live, Done}
use Rattle.ref_model.specs.State.{JavaThread, State}
use Rattle.ref_model.specs.Ending.{ending}
use Rattle.ref_model.specs.Waiting.{is_reached}

abbrev pub is_done : Status → Bool
is_done New = false
is_done (Live phase) = false
is_done Done = true

abbrev pub has_ended : State → ℕ → Bool
has_ended r t = option_map_or (λ (x : JavaThread). is_done x.thread.status) (slice_get r.threads t) false

abbrev pub is_free : State → ℕ → Bool
is_free r o = is_none (r.owners o)

-- Whether a live thread in this phase goes on. One that waits to be notified doesn't: its wait is ended by other threads, or by time.
abbrev pub can_go_on : State → JavaThread → Phase → Bool
can_go_on r x Run = true
can_go_on r x (Throwing o) = true
can_go_on r x (Entering o) = is_free r o
can_go_on r x (Waiting o count deadline) = false
can_go_on r x (Reenter o count wake) = is_free r o
can_go_on r x (Parked deadline) = x.permit || (x.interrupted || is_reached r.now deadline)
can_go_on r x (Asleep deadline) = x.interrupted || is_reached r.now (Some deadline)
can_go_on r x (Joining u deadline) = has_ended r u || (x.interrupted || is_reached r.now deadline)

abbrev pub is_ready : State → JavaThread → Status → Bool
is_ready r x New = false
is_ready r x (Live phase) = can_go_on r x phase
is_ready r x Done = false

-- the program hasn't ended, and the thread doesn't wait
abbrev pub enabled : State → ℕ → Bool
enabled r t =
    is_none (ending r) && option_map_or (λ (x : JavaThread). is_ready r x x.thread.status) (slice_get r.threads t) false
