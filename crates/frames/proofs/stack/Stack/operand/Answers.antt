use Rattle.std.proofs.Common.{◌-◌, Some, ap, sym, ◌∙◌, arith}
use Rattle.std.proofs.lemmas.List.{get_or_read}
use Rattle.std.specs.Prelude.{slice_get}
use Rattle.frames.specs.Frames.{Frames, top_stack}
use Rattle.frames.specs.Layout.{saved_of}
use Rattle.instruction_rows.specs.declared.value.Slot.TheVariants.{Second}
use Rattle.frames.proofs.StackLaws.{get_operand}
use Rattle.frames.proofs.SeenLaws.{bounds}
use Rattle.frames.proofs.stack.Stack.operand.Goals as goal

pub end-requires : goal.end-requires
end-requires c =
    let b = bounds c.self.inside _ c.self.invariant c.self.view_is in
    omega arith

pub overflow_sub-end : goal.overflow_sub-end
overflow_sub-end c =
    let b = bounds c.self.inside _ c.self.invariant c.self.view_is in
    omega arith

pub overflow_sub-end-2 : goal.overflow_sub-end-2
overflow_sub-end-2 c =
    let b = bounds c.self.inside _ c.self.invariant c.self.view_is in
    omega arith

pub index-slot-requires : goal.index-slot-requires
index-slot-requires c =
    let b = bounds c.self.inside _ c.self.invariant c.self.view_is in
    omega arith

pub returns : goal.returns
returns c =
    let s = c.self.inside in
    let b = bounds c.self.inside _ c.self.invariant c.self.view_is in
    ap (λ (v : Frames). slice_get (top_stack v.frames) c.args.i) (sym c.self.view_is)
    ∙ get_operand (saved_of s) s.slots.len s.slots.items s.top c.args.i (c.end.result - 1 - c.args.i) c.self.invariant.placed (omega arith) (omega arith)
    ∙ ap Some (sym (c.slot.ensures ∙ get_or_read s.slots.items (c.end.result - 1 - c.args.i) c.index-slot.result.now (omega arith) c.index-slot.ensures Second))
