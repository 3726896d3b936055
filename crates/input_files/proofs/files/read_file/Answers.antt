use Rattle.std.proofs.Common.{arith}
use Rattle.input_files.proofs.ReadLaws.{missing_is, large_is, whole_is}
use Rattle.input_files.proofs.files.read_file.Goals as goal

pub returns-in-Ok-None-clause-cause : goal.returns-in-Ok-None-clause-cause
returns-in-Ok-None-clause-cause g c = missing_is _ c.args.file c.args.name.now (rw c.in-Ok-None.field-0-is at c.in-Ok-None.ensures.known)

pub returns-then-len-clause-cause : goal.returns-then-len-clause-cause
returns-then-len-clause-cause g c = large_is _ c.args.file c.args.name.now c.in-Ok-Some.bytes.items (rw c.in-Ok-Some.field-0-is at c.in-Ok-Some.ensures.known) (omega arith)

pub returns-clause-found : goal.returns-clause-found
returns-clause-found g c = whole_is _ c.args.name.now c.in-Ok-Some.bytes.items (rw c.in-Ok-Some.field-0-is at c.in-Ok-Some.ensures.known) (omega arith)
