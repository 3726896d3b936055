use Rattle.std.proofs.Common.{◌≡◌, List, [], ◌∷◌, drop, reverse, ap, sym, subst, ◌∙◌, arith}
use Rattle.std.proofs.lemmas.List.{reverse-append}
use Rattle.frames.specs.Frames.{left}
use Rattle.frames.specs.Layout.{saved_of, frames_of, ArePlaced}
use Rattle.frames.specs.declared.record.Record.{Record}
use Rattle.frames.proofs.StackLaws.{kept_is, spare_left}
use Rattle.frames.proofs.SeenLaws.{bounds}
use Rattle.frames.proofs.stack.Stack.pop_frame.Goals as goal

pub returns : goal.returns
returns c =
    let s = c.self.inside in
    let slots = s.slots.items in
    let below = c.in-Some.below in
    let under : saved_of s ≡ below ∷ reverse c.pop.new.self.items = ap reverse c.in-Some.ensures.items ∙ reverse-append c.pop.new.self.items (below ∷ []) in
    let P : List Record → Type 0 = λ qs. ArePlaced s.slots.len s.top qs in
    let placed : ArePlaced s.slots.len s.top (below ∷ reverse c.pop.new.self.items) = subst P under c.self.invariant.placed in
    let fewer = c.in-Some.ensures.cases in
    let same = c.in-Some.ensures.capacity in
    let fits = s.saved.ok.1 in
    let b = bounds c.self.inside _ c.self.invariant c.self.view_is in
    kept_is (sym (ap (λ qs. drop 1 (frames_of slots s.top qs)) under))
    (ap (λ n. drop n slots) (sym placed.0.placed) ∙ spare_left (saved_of s) s.slots.len slots s.top c.self.invariant.placed (omega arith)) (omega arith)
    ∙ ap left c.self.view_is
