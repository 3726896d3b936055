use Rattle.std.proofs.Common.{refl, arith}
use Rattle.class_file.proofs.PlainLaws.{run_none, run_some}
use Rattle.class_file.proofs.plain.plain_run.Goals as goal

pub returns-then-stops-eq0 : goal.returns-then-stops-eq0
returns-then-stops-eq0 c = run_none c.args.bytes.now c.args.at _ c.requires c.type_inv.bytes refl c.if-stops-eq0.true

pub returns-else-stops-eq0 : goal.returns-else-stops-eq0
returns-else-stops-eq0 c = run_some c.args.bytes.now c.args.at _ c.requires c.type_inv.bytes refl (omega arith)
