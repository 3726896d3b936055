use Rattle.std.proofs.Common.{ap}
use Rattle.instruction_rows.specs.Rows.{get_static, put_static, get_field, put_field}
use Rattle.instruction_rows.specs.Table.{row}
use Rattle.heap_instructions.proofs.DispatchLaws.{kept_same, heap_run, statics_run}
use Rattle.heap_instructions.proofs.dispatch.run_field.Goals as goal

pub returns-in-GetStatic : goal.returns-in-GetStatic
returns-in-GetStatic g c =
    statics_run (g.W.EventWorld.world c.args.world.now) c.args.resolution.now (row c.args.op.now) (get_static c.in-GetStatic.field-0) c.args.heap.now c.args.statics.now c.args.statics.now c.args.mounted.now c.get_static.new.mounted c.get_static.result
    (ap row c.in-GetStatic.is) c.get_static.ensures.effect c.get_static.ensures.kept (kept_same c.get_static.result c.args.statics.now) c.get_static.ensures.only

pub returns-in-PutStatic : goal.returns-in-PutStatic
returns-in-PutStatic g c =
    statics_run (g.W.EventWorld.world c.args.world.now) c.args.resolution.now (row c.args.op.now) (put_static c.in-PutStatic.field-0) c.args.heap.now c.args.statics.now c.put_static.new.statics c.args.mounted.now c.put_static.new.mounted c.put_static.result
    (ap row c.in-PutStatic.is) c.put_static.ensures.effect c.put_static.ensures.kept c.put_static.ensures.kept_statics c.put_static.ensures.only

pub returns-in-GetField : goal.returns-in-GetField
returns-in-GetField g c =
    heap_run (g.W.EventWorld.world c.args.world.now) c.args.resolution.now (row c.args.op.now) (get_field c.in-GetField.field-0) c.args.heap.now c.args.heap.now c.args.statics.now c.args.mounted.now c.get_field.new.mounted c.get_field.result
    (ap row c.in-GetField.is) c.get_field.ensures.effect c.get_field.ensures.kept (kept_same c.get_field.result c.args.heap.now) c.get_field.ensures.only

pub returns-in-PutField : goal.returns-in-PutField
returns-in-PutField g c =
    heap_run (g.W.EventWorld.world c.args.world.now) c.args.resolution.now (row c.args.op.now) (put_field c.in-PutField.field-0) c.args.heap.now c.put_field.new.heap c.args.statics.now c.args.mounted.now c.put_field.new.mounted c.put_field.result
    (ap row c.in-PutField.is) c.put_field.ensures.effect c.put_field.ensures.kept c.put_field.ensures.kept_heap c.put_field.ensures.only
