use Rattle.type_paths.specs.Paths.{IsAbove}
use Rattle.type_paths.proofs.paths.Paths.common.Given as goal

abbrev pub invariant-loop : goal.invariant-loop
invariant-loop l = IsAbove l.self l.one l.a × IsAbove l.self l.fn.other l.b
