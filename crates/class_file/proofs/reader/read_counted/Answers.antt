use Rattle.std.proofs.Common.{arith}
use Rattle.class_file.proofs.OutcomeLaws.{is_spelled, same_value, not_spelled}
use Rattle.class_file.proofs.reader.read_counted.Goals as goal

pub returns-in-Ok-clause-found : goal.returns-in-Ok-clause-found
returns-in-Ok-clause-found g c = is_spelled c.args.bytes.now c.in-Ok.file (λ i. omega (arith, c.type_inv.bytes i)) c.in-Ok.ensures.read

pub returns-in-Ok-clause-only : goal.returns-in-Ok-clause-only
returns-in-Ok-clause-only g c = λ f s. same_value c.args.bytes.now c.in-Ok.file f c.in-Ok.ensures.read s

pub returns-in-Err-Fault-clause-only : goal.returns-in-Err-Fault-clause-only
returns-in-Err-Fault-clause-only g c = λ f s. absurd (not_spelled c.args.bytes.now c.in-Err-Fault.fault f (rw c.in-Err-Fault.field-0-is at c.in-Err-Fault.ensures.read) s)
