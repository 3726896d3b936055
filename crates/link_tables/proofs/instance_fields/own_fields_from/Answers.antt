use Rattle.link_tables.proofs.InstanceLaws.{field_more}
use Rattle.link_tables.proofs.instance_fields.own_fields_from.Goals as goal

pub loop-index-preserved : goal.loop-index-preserved
loop-index-preserved c =
    field_more c.args.first c.loop-index.index c.args.fields.now c.index-fields-index.result c.loop-index.own.items c.add_field.new.own.items
    c.loop-index-test.true c.index-fields-index.is c.loop-index.invariant c.in_ok-add_field.ensures
