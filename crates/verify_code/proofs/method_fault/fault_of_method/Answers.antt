use Rattle.verify_code.proofs.InstructionLaws.{decoded_rises}
use Rattle.verify_code.proofs.method_fault.fault_of_method.Goals as goal

pub invariant_of-method : goal.invariant_of-method
invariant_of-method g c = record { in_order = decoded_rises c.in-Some-code.code.now c.in-Some-code.ensures.decoded }
