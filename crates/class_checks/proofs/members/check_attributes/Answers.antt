use Rattle.std.proofs.Common.{Ok, Err}
use Rattle.class_grammar.specs.Checks.{attribute_items}
use Rattle.class_checks.proofs.ItemLaws.{looped, handed_on}
use Rattle.class_checks.proofs.members.check_attributes.Goals as goal

pub returns-in_err-left : goal.returns-in_err-left
returns-in_err-left c =
    handed_on c.from_residual.result _ c.in_err-left.field-0.0 c.from_residual.ensures.1
    (looped (attribute_items c.args.pool.now c.args.member.now) c.as_slice-attribute-items.result.now c.loop-attribute.attribute-index c.attribute-item.result c.loop-attribute.left (Err c.in_err-left.field-0.0) _ c.loop-attribute-test.true c.attribute-item.is c.in_err-left.ensures c.loop-attribute.invariant)

pub loop-attribute-preserved : goal.loop-attribute-preserved
loop-attribute-preserved c =
    looped (attribute_items c.args.pool.now c.args.member.now) c.as_slice-attribute-items.result.now c.loop-attribute.attribute-index c.attribute-item.result c.loop-attribute.left (Ok c.in_ok-left.left) _ c.loop-attribute-test.true c.attribute-item.is c.in_ok-left.ensures c.loop-attribute.invariant
