use Rattle.std.proofs.Common.{ap, ◌∙◌, arith}
use Rattle.heap_objs.specs.Heap.{Heap, with_value}
use Rattle.heap_objs.proofs.HeapLaws.{objects_set, heap_is}
use Rattle.heap_objs.proofs.EntryLaws.{value_entry, has_value}
use Rattle.heap_objs.proofs.heap.Heap.set.Goals as goal

pub index-entry-requires : goal.index-entry-requires
index-entry-requires c =
    let s = c.self.inside in
    let len = s.table.ok.0 in
    let there = value_entry s c.args.o c.args.i (rw (← c.self.view_is) at c.requires) in
    omega arith

pub overflow_add-entry : goal.overflow_add-entry
overflow_add-entry c =
    let s = c.self.inside in
    let entry = has_value s c.args.o c.args.i c.index-entry.result.now (rw (← c.self.view_is) at c.requires) c.index-entry.ensures in
    let place = entry.place in
    let fits = s.values.ok.1 in
    let small = s.values.small in
    omega arith

pub index_mut-requires : goal.index_mut-requires
index_mut-requires c =
    let s = c.self.inside in
    let entry = has_value s c.args.o c.args.i c.index-entry.result.now (rw (← c.self.view_is) at c.requires) c.index-entry.ensures in
    let place = entry.place in
    omega arith

pub returns : goal.returns
returns c =
    let s = c.self.inside in
    let e = c.index-entry.result.now in
    let entry = has_value s c.args.o c.args.i e (rw (← c.self.view_is) at c.requires) c.index-entry.ensures in
    heap_is (objects_set s.table.items 0 0 s.values.len s.units.len c.args.o c.args.i e s.values.items s.units.items c.args.value c.self.invariant.laid entry.is entry.here)
    ∙ ap (λ (v : Heap). record v { objects = with_value c.args.o c.args.i c.args.value v.objects }) c.self.view_is
