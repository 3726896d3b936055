use Rattle.std.proofs.Common.{◌≡◌, Some, ap, ◌∙◌, arith}
use Rattle.std.specs.Prelude.{slice_get, is_some}
use Rattle.heap_objs.specs.Heap.{Heap, units_at}
use Rattle.heap_objs.proofs.StretchLaws.{get_read}
use Rattle.heap_objs.proofs.HeapLaws.{length-objects_of, text_here}
use Rattle.heap_objs.proofs.heap.Heap.is_text.Goals as goal

pub index-requires : goal.index-requires
index-requires c =
    let s = c.self.inside in
    let es = s.table.items in
    let vs = s.values.items in
    let us = s.units.items in
    let len = s.table.ok.0 in
    let h = rw (← c.self.view_is) at c.requires in
    let all = length-objects_of es vs us in
    omega arith

pub returns : goal.returns
returns c =
    let s = c.self.inside in
    let es = s.table.items in
    let vs = s.values.items in
    let us = s.units.items in
    let len = s.table.ok.0 in
    let h = rw (← c.self.view_is) at c.requires in
    let all = length-objects_of es vs us in
    let e = c.index.result.now in
    let is : slice_get es c.args.o ≡ Some e = get_read es c.args.o e (omega arith) c.index.ensures in
    text_here es c.args.o e vs us c.is_none.result is c.is_none.ensures ∙ ap (λ (v : Heap). is_some (units_at v.objects c.args.o)) c.self.view_is
