use Rattle.std.proofs.Common.{◌≡◌, ◌-◌, List, ◌∷◌, reverse, ap, sym, subst, ◌∙◌, arith}
use Rattle.frames.specs.Frames.{called}
use Rattle.frames.specs.Layout.{saved_of, frames_of, ArePlaced}
use Rattle.frames.specs.declared.record.Record.{Record}
use Rattle.frames.proofs.StackLaws.{kept_is, placed_longer, callee_placed, callee_frames, callee_spare, caller_of, callee_of}
use Rattle.frames.proofs.SeenLaws.{bounds, reverse_push}
use Rattle.frames.proofs.stack.Stack.enter.Goals as goal

pub overflow_sub-caller : goal.overflow_sub-caller
overflow_sub-caller c =
    let b = bounds c.self.inside _ c.self.invariant c.self.view_is in
    let given = c.requires.given in omega arith

pub end-base-requires : goal.end-base-requires
end-base-requires c =
    let b = bounds c.self.inside _ c.self.invariant c.self.view_is in
    omega arith

pub unset-requires : goal.unset-requires
unset-requires c =
    let b = bounds c.self.inside _ c.self.invariant c.self.view_is in
    omega arith

pub invariant_of-self : goal.invariant_of-self
invariant_of-self c =
    let s = c.self.inside in
    let caller = caller_of (s.top.used - c.args.args) s.top in
    let callee = callee_of c.end-base.result c.args.method c.args.locals c.args.operands in
    let under : reverse c.push_reserved.new.self.items ≡ caller ∷ saved_of s = reverse_push s.saved.items c.push_reserved.new.self.items caller c.push_reserved.ensures.items in
    let P : List Record → Type 0 = λ qs. ArePlaced c.unset.new.slots.len callee qs in
    let same = c.unset.ensures.len in
    let more = c.push_reserved.ensures.len in
    let b = bounds c.self.inside _ c.self.invariant c.self.view_is in
    record {
      placed = subst P (sym under)
          (callee_placed (saved_of s) c.unset.new.slots.len c.end-base.result c.args.method c.args.locals c.args.operands (s.top.used - c.args.args) s.top
          (placed_longer (saved_of s) s.slots.len c.unset.new.slots.len s.top (omega arith) c.self.invariant.placed) (omega arith) c.end-base.ensures (omega arith));
      few = omega arith;
    }

pub returns : goal.returns
returns c =
    let s = c.self.inside in
    let caller = caller_of (s.top.used - c.args.args) s.top in
    let callee = callee_of c.end-base.result c.args.method c.args.locals c.args.operands in
    let slots = c.unset.new.slots.items in
    let under : reverse c.push_reserved.new.self.items ≡ caller ∷ saved_of s = reverse_push s.saved.items c.push_reserved.new.self.items caller c.push_reserved.ensures.items in
    let more = c.push_reserved.ensures.len in
    let capacity = c.push_reserved.ensures.capacity in
    let b = bounds c.self.inside _ c.self.invariant c.self.view_is in
    kept_is
    (ap (frames_of slots callee) under
    ∙ callee_frames (saved_of s) s.slots.len c.end-base.result c.args.method c.args.locals c.args.operands c.args.args (s.top.used - c.args.args) s.slots.items slots s.top
    c.self.invariant.placed (omega arith) c.end-base.ensures c.requires.taken c.unset.ensures.kept c.unset.ensures.unset)
    (callee_spare c.end-base.result c.args.locals c.args.args (s.top.used - c.args.args) s.slots.items slots s.top (omega arith) c.end-base.ensures c.requires.taken c.unset.ensures.behind)
    (omega arith)
    ∙ ap (called c.args.method c.args.locals c.args.operands c.args.args) c.self.view_is
