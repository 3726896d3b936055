use Rattle.std.proofs.Common.{◌≡◌, ◌<◌, ◌≤◌, ℕ, Bool, true, false, None, get_or, length}
use Rattle.ref_model.specs.State.{State}
use Rattle.program_state.specs.States.{IsState}
use Rattle.machine.specs.Stalls.{is_kept_back}
use Rattle.machine.proofs.stalls.first_going.Given as goal

abbrev pub invariant-loop-c : goal.invariant-loop-c
invariant-loop-c l = (r : State) (out : ℕ → Bool) → IsState l.state r out → (j : ℕ) → j < l.c →
    is_kept_back r (get_or l.mounted j None) (get_or l.pins j false) ≡ true
