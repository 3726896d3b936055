use Rattle.std.proofs.Common.{Ok, Err, ◌∙◌}
use Rattle.class_checks.proofs.ItemLaws.{handed_on}
use Rattle.class_checks.proofs.FileLaws.{fields_first, methods_behind}
use Rattle.class_checks.proofs.file.check_members.Goals as goal

pub returns-in_err-left : goal.returns-in_err-left
returns-in_err-left c =
    handed_on c.from_residual.result _ c.in_err-left.field-0.0 c.from_residual.ensures.1
    (fields_first c.args.file.now c.args.pool.now c.args.left c.saturating_sub.result c.deref.result.now (Err c.in_err-left.field-0.0) c.requires c.saturating_sub.ensures c.deref.ensures c.in_err-left.ensures)

pub returns : goal.returns
returns c =
    c.check_methods.ensures
    ∙ methods_behind c.args.file.now c.args.pool.now c.in_ok-left.left c.saturating_sub-2.result c.deref-2.result.now c.requires c.saturating_sub-2.ensures c.deref-2.ensures
    ∙ fields_first c.args.file.now c.args.pool.now c.args.left c.saturating_sub.result c.deref.result.now (Ok c.in_ok-left.left) c.requires c.saturating_sub.ensures c.deref.ensures c.in_ok-left.ensures
