use Rattle.std.proofs.Common.{◌≡◌, ◌-◌, ap, sym, ◌∙◌, arith, drop, length}
use Rattle.std.specs.Prelude.{get_or}
use Rattle.frames.specs.Frames.{Frames, top_method}
use Rattle.frames.specs.Layout.{saved_of}
use Rattle.frames.specs.declared.record.Record.{Record}
use Rattle.frames.proofs.StackLaws.{method_is, saved_method}
use Rattle.frames.proofs.SeenLaws.{bounds}
use Rattle.frames.proofs.stack.Stack.method_at.Goals as goal

pub returns-then-above-eq0 : goal.returns-then-above-eq0
returns-then-above-eq0 c =
    let s = c.self.inside in
    let some = c.requires in
    let frames = ap (λ (v : Frames). length v.frames) c.self.view_is in
    method_is (saved_of s) s.slots.items s.top (omega arith)
    ∙ ap (λ (v : Frames). top_method v.frames) c.self.view_is
    ∙ ap (λ n. top_method (drop n c.args.self.now.frames)) (sym c.if-above-eq0.true)

pub overflow_sub-at : goal.overflow_sub-at
overflow_sub-at c =
    let b = bounds c.self.inside _ c.self.invariant c.self.view_is in
    omega arith

pub returns : goal.returns
returns c =
    let s = c.self.inside in
    let b = bounds c.self.inside _ c.self.invariant c.self.view_is in
    let len = s.saved.ok.0 in
    let at : c.len.result - c.args.above ≡ length s.saved.items - c.args.above = omega arith in
    ap (λ (r : Record). r.method) (c.index.ensures ∙ ap (λ n. get_or s.saved.items n c.index.result.now) at)
    ∙ saved_method s.saved.items s.slots.items s.top c.index.result.now c.args.above c.if-above-eq0.false (omega arith)
    ∙ ap (λ (v : Frames). top_method (drop c.args.above v.frames)) c.self.view_is
