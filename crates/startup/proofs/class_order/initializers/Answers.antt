use Rattle.ref_model.specs.Opening.{initializer_of}
use Rattle.startup.proofs.OrderLaws.{found_more}
use Rattle.startup.proofs.class_order.initializers.Goals as goal

pub loop-class-preserved : goal.loop-class-preserved
loop-class-preserved c =
    found_more (initializer_of c.args.tables.now.program) c.as_slice-class-items.result.now c.loop-class.class-index c.loop-class.initializers.items
    c.add_initializer.new.initializers.items c.loop-class-test.true c.loop-class.invariant c.in_ok-add_initializer.ensures
