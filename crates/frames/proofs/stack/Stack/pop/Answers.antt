use Rattle.std.proofs.Common.{◌-◌, ◌++◌, drop, Some, refl, ap, sym, ◌∙◌, arith}
use Rattle.std.proofs.lemmas.List.{get_or_read}
use Rattle.std.specs.Prelude.{slice_get}
use Rattle.frames.specs.Frames.{Frames, top_stack, popped}
use Rattle.frames.specs.Layout.{saved_of, end_of, frames_of}
use Rattle.instruction_rows.specs.declared.value.Slot.TheVariants.{Second}
use Rattle.frames.proofs.StackLaws.{get_operand, kept_is, placed_at, operands_dropped, spare_dropped, reverse_one}
use Rattle.frames.proofs.SeenLaws.{bounds}
use Rattle.frames.proofs.stack.Stack.pop.Goals as goal

pub end-requires : goal.end-requires
end-requires c =
    let b = bounds c.self.inside _ c.self.invariant c.self.view_is in
    omega arith

pub overflow_sub-end : goal.overflow_sub-end
overflow_sub-end c =
    let b = bounds c.self.inside _ c.self.invariant c.self.view_is in
    omega arith

pub index-slot-requires : goal.index-slot-requires
index-slot-requires c =
    let b = bounds c.self.inside _ c.self.invariant c.self.view_is in
    omega arith

pub overflow_sub-self : goal.overflow_sub-self
overflow_sub-self c =
    let b = bounds c.self.inside _ c.self.invariant c.self.view_is in
    omega arith

pub invariant_of-self : goal.invariant_of-self
invariant_of-self c =
    let s = c.self.inside in
    let b = bounds c.self.inside _ c.self.invariant c.self.view_is in
    record { placed = placed_at (saved_of s) s.slots.len s.top.pc (s.top.used - 1) s.top (omega arith) c.self.invariant.placed; few = c.self.invariant.few }

pub returns-clause-value : goal.returns-clause-value
returns-clause-value c =
    let s = c.self.inside in
    let b = bounds c.self.inside _ c.self.invariant c.self.view_is in
    ap (λ (v : Frames). slice_get (top_stack v.frames) 0) (sym c.self.view_is)
    ∙ get_operand (saved_of s) s.slots.len s.slots.items s.top 0 (c.end.result - 1) c.self.invariant.placed (omega arith) (omega arith)
    ∙ ap Some (sym (c.slot.ensures ∙ get_or_read s.slots.items (c.end.result - 1) c.index-slot.result.now (omega arith) c.index-slot.ensures Second))

pub returns-clause-popped : goal.returns-clause-popped
returns-clause-popped c =
    let s = c.self.inside in
    let b = bounds c.self.inside _ c.self.invariant c.self.view_is in
    kept_is (operands_dropped (saved_of s) s.slots.len (s.top.used - 1) 1 s.slots.items s.top c.self.invariant.placed (omega arith))
    (spare_dropped (saved_of s) s.slots.len (s.top.used - 1) 1 s.slots.items s.top c.self.invariant.placed (omega arith) (omega arith)
    ∙ ap (λ xs. xs ++ drop (end_of s.top) s.slots.items) (reverse_one (top_stack (frames_of s.slots.items s.top (saved_of s))))) refl
    ∙ ap popped c.self.view_is
