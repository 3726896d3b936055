use Rattle.std.proofs.Common.{Ok, Err}
use Rattle.class_grammar.specs.Checks.{field_items}
use Rattle.class_checks.proofs.ItemLaws.{looped, handed_on}
use Rattle.class_checks.proofs.members.check_fields.Goals as goal

pub returns-in_err-left : goal.returns-in_err-left
returns-in_err-left c =
    handed_on c.from_residual.result _ c.in_err-left.field-0.0 c.from_residual.ensures.1
    (looped (field_items c.args.pool.now) c.args.members.now c.loop-member.member-index c.member-item.result c.loop-member.left (Err c.in_err-left.field-0.0) _ c.loop-member-test.true c.member-item.is c.in_err-left.ensures c.loop-member.invariant)

pub loop-member-preserved : goal.loop-member-preserved
loop-member-preserved c =
    looped (field_items c.args.pool.now) c.args.members.now c.loop-member.member-index c.member-item.result c.loop-member.left (Ok c.in_ok-left.left) _ c.loop-member-test.true c.member-item.is c.in_ok-left.ensures c.loop-member.invariant
