use Rattle.std.proofs.Common.{◌≡◌, take}
use Rattle.program_state.specs.Timers.{without_keys}
use Rattle.program_state.proofs.timers.clear_keys.Given as goal

abbrev pub invariant-loop-t : goal.invariant-loop-t
invariant-loop-t l = l.keys.items ≡ without_keys l.initial.keys.items (take l.t-index l.threads)
