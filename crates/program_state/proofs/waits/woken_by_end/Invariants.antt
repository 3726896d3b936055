use Rattle.std.proofs.Common.{◌≡◌, take}
use Rattle.std.specs.Prelude.{filter}
use Rattle.program_state.specs.Waiting.{lies_in}
use Rattle.program_state.proofs.waits.woken_by_end.Given as goal

abbrev pub invariant-loop-u : goal.invariant-loop-u
invariant-loop-u l = l.woken.items ≡ filter (lies_in l.state.frozen.items) (take l.u-index l.u-items)
