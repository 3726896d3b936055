use Rattle.std.proofs.Common.{◌≡◌, ◌-◌, ℕ, Bool, drop, length, slice_get}
use Rattle.std.specs.List.{list_any}
use Rattle.thread_lists.specs.Lists.{list_at}
use Rattle.ref_model.specs.State.{State}
use Rattle.ref_model.specs.Step.{enabled}
use Rattle.program_state.specs.States.{IsState}
use Rattle.machine.proofs.AnyLaws.{place_of}
use Rattle.machine.proofs.stalls.deque_goes.Given as goal

abbrev pub invariant-loop-next : goal.invariant-loop-next
invariant-loop-next l = record {
  at : l.next ≡ slice_get (list_at l.deques.lists l.c) (place_of l.next (list_at l.deques.lists l.c));
  any : (r : State) (out : ℕ → Bool) → IsState l.state r out →
      list_any (enabled r) (list_at l.deques.lists l.c) ≡ list_any (enabled r) (drop (place_of l.next (list_at l.deques.lists l.c)) (list_at l.deques.lists l.c));
}

abbrev pub decreases-loop-next : goal.decreases-loop-next
decreases-loop-next l = length (list_at l.deques.lists l.c) - place_of l.next (list_at l.deques.lists l.c)
