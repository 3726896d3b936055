use Rattle.std.proofs.Common.{refl, ap, ◌∙◌}
use Rattle.frames.specs.Frames.{Frames, at_pc, with_frames}
use Rattle.frames.specs.Layout.{saved_of}
use Rattle.frames.proofs.StackLaws.{placed_at, within, frames_pc, kept_is}
use Rattle.frames.proofs.stack.Stack.set_pc.Goals as goal

pub invariant_of-self : goal.invariant_of-self
invariant_of-self c =
    let s = c.self.inside in
    let placed = c.self.invariant.placed in
    record { placed = placed_at (saved_of s) s.slots.len c.args.pc s.top.used s.top (within (saved_of s) s.slots.len s.top placed).held placed; few = c.self.invariant.few }

pub returns : goal.returns
returns c =
    let s = c.self.inside in
    kept_is (frames_pc (saved_of s) c.args.pc s.slots.items s.top) refl refl
    ∙ ap (λ (v : Frames). with_frames (at_pc c.args.pc v.frames) v) c.self.view_is
