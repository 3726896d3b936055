use Rattle.std.proofs.Common.{suc, ◌≡◌, ◌+◌, sym, subst, ◌∙◌, arith}
use Rattle.invocation.specs.Targets.{IfCode, IsNumbered}
use Rattle.invocation.proofs.invocations.named_anew.Goals as goal

pub returns-clause-named : goal.returns-clause-named
returns-clause-named g c =
    let w = g.W.EventWorld.world c.args.world.now in
    let slots = c.in_ok-slots.slots in
    let next : slots + 1 ≡ suc slots = omega arith in
    record {
      method = c.in_ok-method.method.now;
      is = c.in_ok-method.ensures;
      slots = c.in_ok-slots.ensures.slots;
      plain = sym c.takes_double.ensures ∙ c.if-takes_double.false;
      few = c.in_ok-slots.ensures.few;
      unbound = c.numbered.ensures.numbered;
      bound = subst (λ s. IsNumbered w c.args.n s c.numbered-2.result) next c.numbered-2.ensures.numbered;
      local = c.numbered.ensures.local;
      takes = c.numbered.ensures.takes;
      takes_bound = subst (λ s. IfCode c.numbered-2.result (λ callee. callee.slots ≡ s)) next c.numbered-2.ensures.takes;
      native = c.numbered.ensures.native;
      native_bound = c.numbered-2.ensures.native;
    }
