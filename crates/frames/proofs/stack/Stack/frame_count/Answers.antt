use Rattle.std.proofs.Common.{length, ap, sym, ◌∙◌}
use Rattle.std.proofs.lemmas.List.{length-reverse}
use Rattle.frames.specs.Frames.{Frames}
use Rattle.frames.specs.Layout.{saved_of}
use Rattle.frames.proofs.StackLaws.{length-frames_of}
use Rattle.frames.proofs.stack.Stack.frame_count.Goals as goal

pub returns-clause-count : goal.returns-clause-count
returns-clause-count c =
    let s = c.self.inside in
    c.len.ensures ∙ s.saved.ok.0 ∙ sym (length-reverse s.saved.items) ∙ sym (length-frames_of (saved_of s) s.slots.items s.top)
    ∙ ap (λ (v : Frames). length v.frames) c.self.view_is
