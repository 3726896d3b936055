use Rattle.std.proofs.Common.{Ok, Err, ◌∙◌}
use Rattle.class_checks.proofs.ItemLaws.{handed_on}
use Rattle.class_checks.proofs.FileLaws.{class_first}
use Rattle.class_checks.proofs.file.check_rest.Goals as goal

pub returns-in_err-left-clause-left : goal.returns-in_err-left-clause-left
returns-in_err-left-clause-left g c =
    handed_on c.from_residual.result _ c.in_err-left.field-0.0 c.from_residual.ensures.1
    (class_first c.args.file.now c.args.left (Err c.in_err-left.field-0.0) c.in_err-left.ensures.left)

pub returns-clause-left : goal.returns-clause-left
returns-clause-left g c = c.check_members.ensures ∙ class_first c.args.file.now c.args.left (Ok c.in_ok-left.left) c.in_ok-left.ensures.left
