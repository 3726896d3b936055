use Rattle.std.proofs.Common.{ap}
use Rattle.instruction_rows.specs.Rows.{new, new_array_of, new_arrays, check_cast, instance_of}
use Rattle.instruction_rows.specs.Table.{row, new_array_row}
use Rattle.heap_instructions.proofs.DispatchLaws.{kept_same, operands_same, heap_run, heap_run_ok, part_run_ok}
use Rattle.heap_instructions.proofs.dispatch.run_event.Goals as goal

pub returns-in-New : goal.returns-in-New
returns-in-New g c =
    heap_run_ok (g.W.EventWorld.world c.args.world.now) c.args.resolution.now (row c.args.op.now) (new c.in-New.field-0) c.args.heap.now c.new_object.new.heap c.args.statics.now c.args.mounted.now c.new_object.new.mounted c.new_object.result
    (ap row c.in-New.is) c.new_object.ensures.effect c.new_object.ensures.kept c.new_object.ensures.kept_heap c.new_object.ensures.only

pub returns-in-ANewArray : goal.returns-in-ANewArray
returns-in-ANewArray g c =
    heap_run_ok (g.W.EventWorld.world c.args.world.now) c.args.resolution.now (row c.args.op.now) (new_array_of c.in-ANewArray.field-0) c.args.heap.now c.new_array.new.heap c.args.statics.now c.args.mounted.now c.new_array.new.mounted c.new_array.result
    (ap row c.in-ANewArray.is) c.new_array.ensures.effect c.new_array.ensures.kept c.new_array.ensures.kept_heap c.new_array.ensures.only

pub returns-in-MultiANewArray : goal.returns-in-MultiANewArray
returns-in-MultiANewArray g c =
    heap_run_ok (g.W.EventWorld.world c.args.world.now) c.args.resolution.now (row c.args.op.now) (new_arrays c.in-MultiANewArray.field-0 c.in-MultiANewArray.dimensions) c.args.heap.now c.new_arrays.new.heap c.args.statics.now c.args.mounted.now c.new_arrays.new.mounted c.new_arrays.result
    (ap row c.in-MultiANewArray.is) c.new_arrays.ensures.effect c.new_arrays.ensures.kept c.new_arrays.ensures.kept_heap c.new_arrays.ensures.only

pub returns-in-InstanceOf : goal.returns-in-InstanceOf
returns-in-InstanceOf g c =
    heap_run (g.W.EventWorld.world c.args.world.now) c.args.resolution.now (row c.args.op.now) (instance_of c.in-InstanceOf.field-0) c.args.heap.now c.args.heap.now c.args.statics.now c.args.mounted.now c.instance_of.new.mounted c.instance_of.result
    (ap row c.in-InstanceOf.is) c.instance_of.ensures.effect c.instance_of.ensures.kept (kept_same c.instance_of.result c.args.heap.now) c.instance_of.ensures.only

pub returns-in-NewArray : goal.returns-in-NewArray
returns-in-NewArray g c =
    part_run_ok (g.W.EventWorld.world c.args.world.now) c.args.resolution.now (row c.args.op.now) (new_array_row c.in-NewArray.primitive) c.args.heap.now c.new_primitive_array.new.heap
    c.args.statics.now c.args.mounted.now c.new_primitive_array.new.mounted c.new_primitive_array.result (ap row c.in-NewArray.is) c.new_primitive_array.ensures

pub returns-in-CheckCast : goal.returns-in-CheckCast
returns-in-CheckCast g c =
    heap_run (g.W.EventWorld.world c.args.world.now) c.args.resolution.now (row c.args.op.now) (check_cast c.in-CheckCast.field-0) c.args.heap.now c.args.heap.now
    c.args.statics.now c.args.mounted.now c.args.mounted.now c.check_cast.result (ap row c.in-CheckCast.is) c.check_cast.ensures
    (kept_same c.check_cast.result c.args.mounted.now) (kept_same c.check_cast.result c.args.heap.now) (operands_same c.args.mounted.now)
