use Rattle.std.proofs.Common.{◌≡◌, ℕ, Bool, length, take}
use Rattle.std.specs.Prelude.{filter}
use Rattle.thread_lists.specs.Lists.{push}
use Rattle.machine.specs.Puts.{is_to_go}
use Rattle.ref_model.specs.State.{State}
use Rattle.program_state.specs.States.{IsState}
use Rattle.machine.proofs.puts.put_due.Given as goal

abbrev pub invariant-loop-t : goal.invariant-loop-t
invariant-loop-t l = record {
  lists : (r : State) (out : ℕ → Bool) → IsState l.state r out → l.deques.lists ≡ push l.initial.deques.lists l.c (filter (is_to_go l.state r l.initial.deques.lists) (take l.t-index l.threads));
  carriers : length l.deques.lists ≡ length l.initial.deques.lists;
  room : l.deques.threads ≡ l.initial.deques.threads;
}
