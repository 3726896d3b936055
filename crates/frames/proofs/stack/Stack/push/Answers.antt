use Rattle.std.proofs.Common.{◌+◌, refl, ap, ◌∙◌, arith}
use Rattle.frames.specs.Frames.{pushed}
use Rattle.frames.specs.Layout.{saved_of}
use Rattle.frames.proofs.StackLaws.{kept_is, placed_at, operand_pushed, spare_pushed}
use Rattle.frames.proofs.SeenLaws.{bounds}
use Rattle.frames.proofs.stack.Stack.push.Goals as goal

pub end-end-requires : goal.end-end-requires
end-end-requires c =
    let b = bounds c.self.inside _ c.self.invariant c.self.view_is in
    omega arith

pub index_mut-requires : goal.index_mut-requires
index_mut-requires c =
    let b = bounds c.self.inside _ c.self.invariant c.self.view_is in
    omega arith

pub overflow_add-self : goal.overflow_add-self
overflow_add-self c =
    let b = bounds c.self.inside _ c.self.invariant c.self.view_is in
    omega arith

pub invariant_of-self : goal.invariant_of-self
invariant_of-self c =
    let s = c.self.inside in
    let b = bounds c.self.inside _ c.self.invariant c.self.view_is in
    record { placed = placed_at (saved_of s) s.slots.len s.top.pc (s.top.used + 1) s.top (omega arith) c.self.invariant.placed; few = c.self.invariant.few }

pub returns : goal.returns
returns c =
    let s = c.self.inside in
    let b = bounds c.self.inside _ c.self.invariant c.self.view_is in
    kept_is (operand_pushed (saved_of s) s.slots.len (s.top.used + 1) c.end-end.result s.slots.items s.top c.args.slot c.of.result c.self.invariant.placed c.end-end.ensures c.of.ensures (omega arith) refl)
    (spare_pushed s.top s.slots.items (s.top.used + 1) c.end-end.result c.of.result c.end-end.ensures refl) refl
    ∙ ap (pushed c.args.slot) c.self.view_is
