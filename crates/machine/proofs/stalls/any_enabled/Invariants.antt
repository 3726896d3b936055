use Rattle.std.proofs.Common.{◌≡◌, ℕ, Bool, drop}
use Rattle.std.specs.List.{list_any}
use Rattle.ref_model.specs.State.{State}
use Rattle.program_state.specs.States.{IsState}
use Rattle.machine.specs.Stalls.{goes_on}
use Rattle.machine.proofs.stalls.any_enabled.Given as goal

abbrev pub invariant-loop-thread : goal.invariant-loop-thread
invariant-loop-thread l = (r : State) (out : ℕ → Bool) → IsState l.state r out →
    list_any (goes_on r) l.mounted ≡ list_any (goes_on r) (drop l.thread-index l.mounted)
