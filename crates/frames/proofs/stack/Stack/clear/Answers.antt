use Rattle.std.proofs.Common.{◌++◌, drop, reverse, refl, ap, ◌∙◌, arith}
use Rattle.frames.specs.Frames.{cleared}
use Rattle.frames.specs.Layout.{saved_of, end_of}
use Rattle.frames.proofs.StackLaws.{placed_at, frames_used, kept_is, spare_dropped, take_used}
use Rattle.frames.proofs.SeenLaws.{bounds}
use Rattle.frames.proofs.stack.Stack.clear.Goals as goal

pub invariant_of-self : goal.invariant_of-self
invariant_of-self c =
    let s = c.self.inside in
    record { placed = placed_at (saved_of s) s.slots.len s.top.pc 0 s.top (omega arith) c.self.invariant.placed; few = c.self.invariant.few }

pub returns : goal.returns
returns c =
    let s = c.self.inside in
    let b = bounds c.self.inside _ c.self.invariant c.self.view_is in
    kept_is (frames_used (saved_of s) 0 s.slots.items s.top)
    (spare_dropped (saved_of s) s.slots.len 0 s.top.used s.slots.items s.top c.self.invariant.placed (omega arith) (omega arith)
    ∙ ap (λ xs. reverse xs ++ drop (end_of s.top) s.slots.items) (take_used (saved_of s) s.slots.len s.slots.items s.top c.self.invariant.placed)) refl
    ∙ ap cleared c.self.view_is
