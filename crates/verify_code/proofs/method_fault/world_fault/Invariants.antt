use Rattle.std.proofs.Common.{◌≡◌}
use Rattle.std.specs.Prelude.{drop}
use Rattle.verify_types.specs.Faults.{first_fault}
use Rattle.verify_code.proofs.MethodLaws.{fault_from_number}
use Rattle.verify_code.proofs.method_fault.world_fault.Given as goal

abbrev pub invariant-loop-n : goal.invariant-loop-n
invariant-loop-n g l =
    let w = g.L.Lookups.world l.world in
    fault_from_number w l.n (drop l.n w.methods) ≡ first_fault w
