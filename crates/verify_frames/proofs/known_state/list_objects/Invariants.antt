-- All that aren't left are among the slots.
use Rattle.std.proofs.Common.{◌≡◌, false, length}
use Rattle.verify_frames.specs.KnownStates.{ListsAll}
use Rattle.verify_frames.specs.Overwrites.{is_noted}
use Rattle.verify_frames.proofs.known_state.list_objects.Given as goal

abbrev pub invariant-loop-o : goal.invariant-loop-o
invariant-loop-o l = ListsAll l.initial.slots.items (λ i. is_noted l.rest i ≡ false → is_noted l.objects i ≡ false) l.slots.items

abbrev pub decreases-loop-o : goal.decreases-loop-o
decreases-loop-o l = length l.rest
