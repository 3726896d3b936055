use Rattle.std.proofs.Common.{◌≡◌, ℕ, Bool, drop}
use Rattle.std.specs.List.{list_any}
use Rattle.ref_model.specs.State.{State}
use Rattle.ref_model.specs.Step.{enabled}
use Rattle.program_state.specs.States.{IsState}
use Rattle.machine.proofs.stalls.any_deque_goes.Given as goal

abbrev pub invariant-loop-k : goal.invariant-loop-k
invariant-loop-k l = (r : State) (out : ℕ → Bool) → IsState l.state r out →
    list_any (list_any (enabled r)) l.deques.lists ≡ list_any (list_any (enabled r)) (drop l.k l.deques.lists)
