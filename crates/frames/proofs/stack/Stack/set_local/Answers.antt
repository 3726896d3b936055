use Rattle.std.proofs.Common.{refl, ap, ◌∙◌, arith}
use Rattle.frames.specs.Frames.{Frames, with_local, with_frames}
use Rattle.frames.specs.Layout.{saved_of}
use Rattle.frames.proofs.StackLaws.{kept_is, local_set, spare_set}
use Rattle.frames.proofs.SeenLaws.{bounds}
use Rattle.frames.proofs.stack.Stack.set_local.Goals as goal

pub overflow_add-at : goal.overflow_add-at
overflow_add-at c =
    let b = bounds c.self.inside _ c.self.invariant c.self.view_is in
    omega arith

pub index_mut-requires : goal.index_mut-requires
index_mut-requires c =
    let b = bounds c.self.inside _ c.self.invariant c.self.view_is in
    omega arith

pub returns : goal.returns
returns c =
    let s = c.self.inside in
    let b = bounds c.self.inside _ c.self.invariant c.self.view_is in
    kept_is (local_set (saved_of s) s.slots.len s.slots.items s.top c.args.i c.args.slot c.of.result c.self.invariant.placed c.of.ensures (omega arith) (omega arith))
    (spare_set s.top s.slots.items c.args.i c.of.result (omega arith)) refl
    ∙ ap (λ (v : Frames). with_frames (with_local c.args.i c.args.slot v.frames) v) c.self.view_is
