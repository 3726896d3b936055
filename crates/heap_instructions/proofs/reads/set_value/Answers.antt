use Rattle.std.proofs.Common.{◌<◌, length, arith}
use Rattle.heap_objs.specs.Heap.{values_at}
use Rattle.heap_instructions.proofs.HeapReadLaws.{value_set_is}
use Rattle.heap_instructions.proofs.reads.set_value.Goals as goal

pub returns : goal.returns
returns c = λ r.
    let len = c.len.ensures in
    let inside = c.if-place-len.false in
    let lt : c.args.place < length (values_at c.args.heap.now.objects c.args.o) = omega arith in
    value_set_is r c.args.heap.now c.set.new.self c.args.o c.args.place c.args.value lt c.set.ensures
