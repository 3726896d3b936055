use Rattle.std.proofs.Common.{arith}
use Rattle.class_checks.proofs.NamesByUnits.{ends_by}
use Rattle.class_checks.proofs.names.ends_with_semicolon.Goals as goal

pub returns-in-len1-up : goal.returns-in-len1-up
returns-in-len1-up c = ends_by c.args.units.now (omega arith)
