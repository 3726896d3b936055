use Rattle.std.proofs.Common.{◌+◌, Some, ap, sym, ◌∙◌, arith}
use Rattle.std.proofs.lemmas.List.{get_or_read}
use Rattle.std.specs.Prelude.{slice_get}
use Rattle.frames.specs.Frames.{Frames, top_locals}
use Rattle.frames.specs.Layout.{saved_of}
use Rattle.instruction_rows.specs.declared.value.Slot.TheVariants.{Second}
use Rattle.frames.proofs.StackLaws.{get_local}
use Rattle.frames.proofs.SeenLaws.{bounds}
use Rattle.frames.proofs.stack.Stack.local.Goals as goal

pub overflow_add-self-inside : goal.overflow_add-self-inside
overflow_add-self-inside c =
    let b = bounds c.self.inside _ c.self.invariant c.self.view_is in
    omega arith

pub index-slot-requires : goal.index-slot-requires
index-slot-requires c =
    let b = bounds c.self.inside _ c.self.invariant c.self.view_is in
    omega arith

pub returns : goal.returns
returns c =
    let s = c.self.inside in
    let b = bounds c.self.inside _ c.self.invariant c.self.view_is in
    ap (λ (v : Frames). slice_get (top_locals v.frames) c.args.i) (sym c.self.view_is)
    ∙ get_local (saved_of s) s.slots.len s.slots.items s.top c.args.i c.self.invariant.placed (omega arith)
    ∙ ap Some (sym (c.slot.ensures ∙ get_or_read s.slots.items (s.top.base + c.args.i) c.index-slot.result.now (omega arith) c.index-slot.ensures Second))
