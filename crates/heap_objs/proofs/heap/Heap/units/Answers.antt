use Rattle.std.proofs.Common.{take, drop, Some, ap, sym, ◌∙◌, arith}
use Rattle.heap_objs.specs.Heap.{Heap, units_at}
use Rattle.heap_objs.proofs.HeapLaws.{units_here}
use Rattle.heap_objs.proofs.EntryLaws.{units_entry, has_units}
use Rattle.heap_objs.proofs.heap.Heap.units.Goals as goal

pub index-entry-requires : goal.index-entry-requires
index-entry-requires c =
    let s = c.self.inside in
    let len = s.table.ok.0 in
    let there = units_entry s c.args.o (rw (← c.self.view_is) at c.requires) in
    omega arith

pub split_at-requires : goal.split_at-requires
split_at-requires c =
    let s = c.self.inside in
    let entry = has_units s c.args.o c.index-entry.result.now c.self.invariant (rw (← c.self.view_is) at c.requires) c.index-entry.ensures in
    let within = entry.within in
    let row = c.deref.ensures.len in
    omega arith

pub split_at-requires-2 : goal.split_at-requires-2
split_at-requires-2 c =
    let s = c.self.inside in
    let entry = has_units s c.args.o c.index-entry.result.now c.self.invariant (rw (← c.self.view_is) at c.requires) c.index-entry.ensures in
    let within = entry.within in
    let row = c.deref.ensures.len in
    let rest = c.split_at.ensures.back_len in
    omega arith

pub returns : goal.returns
returns c =
    let s = c.self.inside in
    let e = c.index-entry.result.now in
    let h = rw (← c.self.view_is) at c.requires in
    let entry = has_units s c.args.o e c.self.invariant h c.index-entry.ensures in
    ap (λ (v : Heap). units_at v.objects c.args.o) (sym c.self.view_is) ∙ units_here s.table.items c.args.o e s.values.items s.units.items entry.is h
    ∙ ap Some (sym (c.split_at-2.ensures.front ∙ ap (take e.len) (c.split_at.ensures.back ∙ ap (drop e.start) c.deref.ensures.value)))
