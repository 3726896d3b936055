use Rattle.std.proofs.Common.{List, reverse, ap, sym, subst, ◌∙◌, arith}
use Rattle.frames.specs.Frames.{Frames}
use Rattle.frames.specs.Layout.{saved_of, frames_of, ArePlaced}
use Rattle.frames.specs.declared.record.Record.{Record}
use Rattle.frames.proofs.StackLaws.{placed_longer, frames_agree}
use Rattle.frames.proofs.SeenLaws.{bounds}
use Rattle.frames.proofs.stack.Stack.reserve.Goals as goal

pub end-requires : goal.end-requires
end-requires c =
    let b = bounds c.self.inside _ c.self.invariant c.self.view_is in
    omega arith

pub overflow_add-wanted : goal.overflow_add-wanted
overflow_add-wanted c =
    let b = bounds c.self.inside _ c.self.invariant c.self.view_is in
    omega arith

pub overflow_add-wanted-2 : goal.overflow_add-wanted-2
overflow_add-wanted-2 c =
    let b = bounds c.self.inside _ c.self.invariant c.self.view_is in
    omega arith

pub returns-in_err-lengthen-clause-enough : goal.returns-in_err-lengthen-clause-enough
returns-in_err-lengthen-clause-enough c = λ room.
    let b = bounds c.self.inside _ c.self.invariant c.self.view_is in
    let no = c.in_err-lengthen.ensures.enough (omega arith) in absurd cc

pub invariant_of-self-2 : goal.invariant_of-self-2
invariant_of-self-2 c =
    let s = c.self.inside in
    let P : List Record → Type 0 = λ items. ArePlaced c.lengthen.new.slots.len s.top (reverse items) in
    record {
      placed = subst P (sym c.reserve.ensures.items) (placed_longer (saved_of s) s.slots.len c.lengthen.new.slots.len s.top c.in_ok-lengthen.ensures.longer c.self.invariant.placed);
      few = let few = c.self.invariant.few in let same = c.reserve.ensures.len in omega arith;
    }

pub returns-clause-frames : goal.returns-clause-frames
returns-clause-frames c =
    let s = c.self.inside in
    let slots = c.lengthen.new.slots.items in
    let b = bounds c.self.inside _ c.self.invariant c.self.view_is in
    ap (λ items. frames_of slots s.top (reverse items)) c.reserve.ensures.items
    ∙ frames_agree (saved_of s) s.slots.len s.slots.len s.slots.items slots s.top c.self.invariant.placed b.end (record { same = λ i low high. c.in_ok-lengthen.ensures.kept i high })
    ∙ ap (λ (v : Frames). v.frames) c.self.view_is
