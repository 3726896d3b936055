use Rattle.std.proofs.Common.{◌+◌, ap, sym, ◌∙◌, arith}
use Rattle.std.specs.Prelude.{slice_get}
use Rattle.heap_objs.specs.Heap.{Heap, values_at, values_in}
use Rattle.heap_objs.proofs.StretchLaws.{get_read}
use Rattle.heap_objs.proofs.HeapLaws.{get_object}
use Rattle.heap_objs.proofs.EntryLaws.{value_entry, has_value}
use Rattle.heap_objs.proofs.heap.Heap.get.Goals as goal

pub index-entry-requires : goal.index-entry-requires
index-entry-requires c =
    let s = c.self.inside in
    let len = s.table.ok.0 in
    let there = value_entry s c.args.o c.args.i (rw (← c.self.view_is) at c.requires) in
    omega arith

pub overflow_add-entry : goal.overflow_add-entry
overflow_add-entry c =
    let s = c.self.inside in
    let entry = has_value s c.args.o c.args.i c.index-entry.result.now (rw (← c.self.view_is) at c.requires) c.index-entry.ensures in
    let place = entry.place in
    let fits = s.values.ok.1 in
    let small = s.values.small in
    omega arith

pub index-requires : goal.index-requires
index-requires c =
    let s = c.self.inside in
    let entry = has_value s c.args.o c.args.i c.index-entry.result.now (rw (← c.self.view_is) at c.requires) c.index-entry.ensures in
    let place = entry.place in
    omega arith

pub returns : goal.returns
returns c =
    let s = c.self.inside in
    let e = c.index-entry.result.now in
    let entry = has_value s c.args.o c.args.i e (rw (← c.self.view_is) at c.requires) c.index-entry.ensures in
    let place = entry.place in
    let row = s.values.ok.0 in
    ap (λ (v : Heap). slice_get (values_at v.objects c.args.o) c.args.i) (sym c.self.view_is)
    ∙ ap (λ x. slice_get (values_in x) c.args.i) (get_object s.table.items c.args.o e s.values.items s.units.items entry.is)
    ∙ entry.value ∙ get_read s.values.items (e.start + c.args.i) c.index.result.now (omega arith) c.index.ensures
