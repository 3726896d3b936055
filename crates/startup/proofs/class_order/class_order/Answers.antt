use Rattle.startup.proofs.OrderLaws.{order_more}
use Rattle.startup.proofs.class_order.class_order.Goals as goal

pub loop-class-preserved : goal.loop-class-preserved
loop-class-preserved c =
    order_more c.args.hierarchy.now c.loop-class.class c.loop-class.order c.add_with_superclasses.new.order c.loop-class.invariant
    c.in_ok-add_with_superclasses.ensures
