use Rattle.std.proofs.Common.{ap}
use Rattle.instruction_rows.specs.Rows.{array_load, array_store, array_length}
use Rattle.instruction_rows.specs.Table.{simple_row}
use Rattle.heap_instructions.proofs.DispatchLaws.{kept_same, heap_run}
use Rattle.heap_instructions.proofs.dispatch.run_simple.Goals as goal

pub returns-in-ArrayLoad : goal.returns-in-ArrayLoad
returns-in-ArrayLoad g c =
    heap_run (g.W.EventWorld.world c.args.world.now) c.args.resolution.now (simple_row c.args.simple) (array_load c.in-ArrayLoad.element) c.args.heap.now c.args.heap.now c.args.statics.now c.args.mounted.now c.array_load.new.mounted c.array_load.result
    (ap simple_row c.in-ArrayLoad.is) c.array_load.ensures.effect c.array_load.ensures.kept (kept_same c.array_load.result c.args.heap.now) c.array_load.ensures.only

pub returns-in-ArrayStore : goal.returns-in-ArrayStore
returns-in-ArrayStore g c =
    heap_run (g.W.EventWorld.world c.args.world.now) c.args.resolution.now (simple_row c.args.simple) (array_store c.in-ArrayStore.element) c.args.heap.now c.array_store.new.heap c.args.statics.now c.args.mounted.now c.array_store.new.mounted c.array_store.result
    (ap simple_row c.in-ArrayStore.is) c.array_store.ensures.effect c.array_store.ensures.kept c.array_store.ensures.kept_heap c.array_store.ensures.only

pub returns-in-ArrayLength : goal.returns-in-ArrayLength
returns-in-ArrayLength g c =
    heap_run (g.W.EventWorld.world c.args.world.now) c.args.resolution.now (simple_row c.args.simple) (array_length) c.args.heap.now c.args.heap.now c.args.statics.now c.args.mounted.now c.array_length.new.mounted c.array_length.result
    (ap simple_row c.in-ArrayLength.is) c.array_length.ensures.effect c.array_length.ensures.kept (kept_same c.array_length.result c.args.heap.now) c.array_length.ensures.only
