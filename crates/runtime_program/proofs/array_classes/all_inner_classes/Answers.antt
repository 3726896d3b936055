use Rattle.runtime_program.specs.Arrays.{inner_class}
use Rattle.runtime_program.proofs.TableLaws.{mapped_more}
use Rattle.runtime_program.proofs.array_classes.all_inner_classes.Goals as goal

pub loop-array-preserved : goal.loop-array-preserved
loop-array-preserved c =
    mapped_more (inner_class c.args.tables.now) c.arrays-array-items.result.now c.loop-array.array-index _ c.loop-array.inner.items
    c.add_inner_class.new.inner.items c.loop-array-test.true c.loop-array.invariant c.in_ok-add_inner_class.ensures
