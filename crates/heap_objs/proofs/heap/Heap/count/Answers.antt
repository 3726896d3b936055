use Rattle.std.proofs.Common.{length, ap, sym, ◌∙◌}
use Rattle.heap_objs.specs.Heap.{Heap}
use Rattle.heap_objs.proofs.HeapLaws.{length-objects_of}
use Rattle.heap_objs.proofs.heap.Heap.count.Goals as goal

pub returns : goal.returns
returns c =
    let s = c.self.inside in
    c.len.ensures ∙ s.table.ok.0 ∙ sym (length-objects_of s.table.items s.values.items s.units.items) ∙ ap (λ (v : Heap). length v.objects) c.self.view_is
