use Rattle.std.proofs.Common.{length, ap, ◌∙◌, arith}
use Rattle.heap_objs.specs.Heap.{Heap, values_at}
use Rattle.heap_objs.proofs.HeapLaws.{len_here}
use Rattle.heap_objs.proofs.EntryLaws.{class_entry, class_found}
use Rattle.heap_objs.proofs.heap.Heap.len.Goals as goal

pub index-entry-requires : goal.index-entry-requires
index-entry-requires c =
    let s = c.self.inside in
    let len = s.table.ok.0 in
    let there = class_entry s c.args.o (rw (← c.self.view_is) at c.requires) in
    omega arith

pub returns : goal.returns
returns c =
    let s = c.self.inside in
    let e = c.index-entry.result.now in
    let h = rw (← c.self.view_is) at c.requires in
    let is = class_found s c.args.o e h c.index-entry.ensures in
    len_here s.table.items c.args.o s.values.len s.units.len e s.values.items s.units.items c.self.invariant.laid s.values.ok.0 is h
    ∙ ap (λ (v : Heap). length (values_at v.objects c.args.o)) c.self.view_is
