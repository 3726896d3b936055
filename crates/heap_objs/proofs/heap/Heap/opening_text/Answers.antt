use Rattle.std.proofs.Common.{ℕ, ◌≡◌, ◌+◌, List, [], ◌∷◌, ◌++◌, length, None, ap, sym, subst, ◌∙◌, arith}
use Rattle.state_model.specs.Objects.{text}
use Rattle.heap_objs.specs.Heap.{Heap, with_object}
use Rattle.heap_objs.specs.Layout.{objects_of, AreLaid}
use Rattle.heap_objs.specs.declared.table.Entry.{Entry}
use Rattle.heap_objs.proofs.StretchLaws.{grows_not, grows_by, added}
use Rattle.heap_objs.proofs.HeapLaws.{length-objects_of, laid_more, objects_made, heap_is}
use Rattle.heap_objs.proofs.heap.Heap.opening_text.Goals as goal

pub invariant_of-self-2 : goal.invariant_of-self-2
invariant_of-self-2 c =
    let s = c.self.inside in
    let e : Entry = record { class = None; start = c.len-start.result; len = c.in_ok-len.len } in
    let items : c.push_reserved.new.self.items ≡ s.table.items ++ e ∷ [] = c.push_reserved.ensures.items ∙ ap (λ xs. xs ++ e ∷ []) c.next_number.ensures.items in
    let P : List Entry → Type 0 = λ xs. AreLaid 0 0 s.values.len c.extend_from_slice.new.self.len xs in
    let laid = laid_more s.table.items 0 0 s.values.len s.units.len e c.len-start.ensures c.self.invariant.laid in
    let Q : ℕ → Type 0 = λ n. AreLaid 0 0 s.values.len n (s.table.items ++ e ∷ []) in
    record { laid = subst P (sym items) (subst Q (sym (c.in_ok-extend_from_slice.ensures.len ∙ ap (λ n. s.units.len + n) (sym c.in_ok-len.ensures))) laid); used = c.self.invariant.used }

pub returns-clause-number : goal.returns-clause-number
returns-clause-number c =
    let s = c.self.inside in
    c.in_ok-number.ensures.number ∙ s.table.ok.0 ∙ sym (length-objects_of s.table.items s.values.items s.units.items) ∙ ap (λ (v : Heap). length v.objects) c.self.view_is

pub returns-clause-ok : goal.returns-clause-ok
returns-clause-ok c =
    let s = c.self.inside in
    let e : Entry = record { class = None; start = c.len-start.result; len = c.in_ok-len.len } in
    let values = s.values.ok.0 in
    let units = s.units.ok.0 in
    let items : c.push_reserved.new.self.items ≡ s.table.items ++ e ∷ [] = c.push_reserved.ensures.items ∙ ap (λ xs. xs ++ e ∷ []) c.next_number.ensures.items in
    let grown = c.in_ok-extend_from_slice.ensures.items in
    heap_is ((λ i. objects_of s.values.items (grown i) (items i))
    ∙ objects_made s.table.items s.values.len s.units.len e (text c.args.units.now) s.values.items s.values.items s.units.items (s.units.items ++ c.args.units.now) c.self.invariant.laid (omega arith) (omega arith) (grows_not s.values.items) (grows_by s.units.items c.args.units.now) (ap text (added s.units.items c.args.units.now c.len-start.result c.in_ok-len.len (let at = c.len-start.ensures in omega arith) (sym c.in_ok-len.ensures))))
    ∙ ap (with_object (text c.args.units.now)) c.self.view_is
