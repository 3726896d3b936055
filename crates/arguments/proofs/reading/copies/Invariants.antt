use Rattle.std.proofs.Common.{◌≡◌, map, take}
use Rattle.arguments.specs.Commands.{texts}
use Rattle.arguments.proofs.reading.copies.Given as goal

abbrev pub invariant-loop-word : goal.invariant-loop-word
invariant-loop-word l = texts l.copies.items ≡ map (λ w. w.now) (take l.word-index l.words)
