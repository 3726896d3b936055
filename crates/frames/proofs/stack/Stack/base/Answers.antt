use Rattle.std.proofs.Common.{drop, ap, ◌∙◌, arith}
use Rattle.frames.specs.Frames.{Frames, size_of}
use Rattle.frames.specs.Layout.{saved_of}
use Rattle.frames.proofs.StackLaws.{base_is}
use Rattle.frames.proofs.SeenLaws.{bounds}
use Rattle.frames.proofs.stack.Stack.base.Goals as goal

pub returns-clause-value : goal.returns-clause-value
returns-clause-value c =
    let s = c.self.inside in
    base_is (saved_of s) s.slots.len s.slots.items s.top c.self.invariant.placed ∙ ap (λ (v : Frames). size_of (drop 1 v.frames)) c.self.view_is

pub returns-clause-room : goal.returns-clause-room
returns-clause-room c =
    let b = bounds c.self.inside _ c.self.invariant c.self.view_is in
    omega arith
