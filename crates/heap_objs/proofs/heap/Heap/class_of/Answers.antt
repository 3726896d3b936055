use Rattle.std.proofs.Common.{ℕ, Option, ap, sym, subst, ◌∙◌, arith}
use Rattle.std.specs.Prelude.{IsSome}
use Rattle.heap_objs.specs.Heap.{Heap, class_at}
use Rattle.heap_objs.proofs.HeapLaws.{class_here, is_class}
use Rattle.heap_objs.proofs.EntryLaws.{class_entry, class_found}
use Rattle.heap_objs.proofs.heap.Heap.class_of.Goals as goal

pub index-entry-requires : goal.index-entry-requires
index-entry-requires c =
    let s = c.self.inside in
    let len = s.table.ok.0 in
    let there = class_entry s c.args.o (rw (← c.self.view_is) at c.requires) in
    omega arith

pub unreachable-requires : goal.unreachable-requires
unreachable-requires c =
    let s = c.self.inside in
    let e = c.index-entry.result.now in
    let h = rw (← c.self.view_is) at c.requires in
    let is = class_found s c.args.o e h c.index-entry.ensures in
    let some = is_class s.table.items c.args.o e s.values.items s.units.items is h in
    let P : Option ℕ → Type 0 = λ x. IsSome x in
    let none = subst P c.in-None.is some in
    cc

pub returns : goal.returns
returns c =
    let s = c.self.inside in
    let e = c.index-entry.result.now in
    let is = class_found s c.args.o e (rw (← c.self.view_is) at c.requires) c.index-entry.ensures in
    ap (λ (v : Heap). class_at v.objects c.args.o) (sym c.self.view_is)
    ∙ class_here s.table.items c.args.o e s.values.items s.units.items is ∙ c.in-Some.is
