use Rattle.std.proofs.Common.{refl, sym, ◌∙◌, arith}
use Rattle.frames.specs.Layout.{saved_of}
use Rattle.frames.proofs.StackLaws.{slots_are}
use Rattle.frames.proofs.SeenLaws.{bounds, lent}
use Rattle.frames.proofs.stack.Stack.slots.Goals as goal

pub returns : goal.returns
returns c =
    let s = c.self.inside in
    let b = bounds s _ c.self.invariant c.self.view_is in
    rw (← c.self.view_is) (
      (refl, λ w. lent s w c.self.invariant),
      record {
        writes_back = tt;
        value = c.as_mut_slice.ensures.value ∙ sym (slots_are (saved_of s) s.slots.len s.slots.items s.top c.self.invariant.placed (omega arith));
      },
    )
