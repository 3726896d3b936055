use Rattle.std.proofs.Common.{◌-◌, refl, ap, ◌∙◌, arith}
use Rattle.frames.specs.Frames.{dropped}
use Rattle.frames.specs.Layout.{saved_of}
use Rattle.frames.proofs.StackLaws.{kept_is, placed_at, operands_dropped, spare_dropped}
use Rattle.frames.proofs.SeenLaws.{bounds}
use Rattle.frames.proofs.stack.Stack.drop_operands.Goals as goal

pub overflow_sub-self : goal.overflow_sub-self
overflow_sub-self c =
    let b = bounds c.self.inside _ c.self.invariant c.self.view_is in
    let h = c.requires in
    omega arith

pub invariant_of-self : goal.invariant_of-self
invariant_of-self c =
    let s = c.self.inside in
    let b = bounds c.self.inside _ c.self.invariant c.self.view_is in
    record { placed = placed_at (saved_of s) s.slots.len s.top.pc (s.top.used - c.args.slots) s.top (omega arith) c.self.invariant.placed; few = c.self.invariant.few }

pub returns : goal.returns
returns c =
    let s = c.self.inside in
    let b = bounds c.self.inside _ c.self.invariant c.self.view_is in
    let h = c.requires in
    kept_is (operands_dropped (saved_of s) s.slots.len (s.top.used - c.args.slots) c.args.slots s.slots.items s.top c.self.invariant.placed (omega arith))
    (spare_dropped (saved_of s) s.slots.len (s.top.used - c.args.slots) c.args.slots s.slots.items s.top c.self.invariant.placed (omega arith) (omega arith)) refl
    ∙ ap (dropped c.args.slots) c.self.view_is
