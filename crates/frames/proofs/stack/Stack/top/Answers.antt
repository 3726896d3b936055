use Rattle.std.proofs.Common.{ap, sym, ◌∙◌}
use Rattle.frames.specs.Frames.{Frames, top_method, top_pc}
use Rattle.frames.specs.Layout.{saved_of}
use Rattle.frames.proofs.StackLaws.{method_is, pc_is}
use Rattle.frames.proofs.SeenLaws.{bounds}
use Rattle.frames.proofs.stack.Stack.top.Goals as goal

pub returns-clause-method : goal.returns-clause-method
returns-clause-method c =
    let s = c.self.inside in
    method_is (saved_of s) s.slots.items s.top (rw (← c.self.view_is) at c.requires) ∙ ap (λ (v : Frames). top_method v.frames) c.self.view_is

pub returns-clause-pc : goal.returns-clause-pc
returns-clause-pc c =
    let s = c.self.inside in
    pc_is (saved_of s) s.slots.items s.top (rw (← c.self.view_is) at c.requires) ∙ ap (λ (v : Frames). top_pc v.frames) c.self.view_is

pub returns-clause-locals : goal.returns-clause-locals
returns-clause-locals c = sym (bounds c.self.inside _ c.self.invariant c.self.view_is).locals

pub returns-clause-operands : goal.returns-clause-operands
returns-clause-operands c = sym (bounds c.self.inside _ c.self.invariant c.self.view_is).used
