use Rattle.std.proofs.Common.{refl, ap, ◌∙◌, arith}
use Rattle.frames.specs.Frames.{with_pc_and_operands}
use Rattle.frames.specs.Layout.{saved_of}
use Rattle.frames.proofs.StackLaws.{kept_is, placed_at, frames_set, spare_behind}
use Rattle.frames.proofs.SeenLaws.{bounds}
use Rattle.frames.proofs.stack.Stack.set_pc_and_operands.Goals as goal

pub invariant_of-self : goal.invariant_of-self
invariant_of-self c =
    let s = c.self.inside in
    let b = bounds c.self.inside _ c.self.invariant c.self.view_is in
    let most = c.requires in
    record { placed = placed_at (saved_of s) s.slots.len c.args.pc c.args.operands s.top (omega arith) c.self.invariant.placed; few = c.self.invariant.few }

pub returns : goal.returns
returns c =
    let s = c.self.inside in
    let b = bounds c.self.inside _ c.self.invariant c.self.view_is in
    kept_is (frames_set (saved_of s) s.slots.len c.args.pc c.args.operands s.slots.items s.top c.self.invariant.placed (omega arith))
    (spare_behind (saved_of s) s.slots.len c.args.operands s.slots.items s.top c.self.invariant.placed (omega arith)) refl
    ∙ ap (with_pc_and_operands c.args.pc c.args.operands) c.self.view_is
