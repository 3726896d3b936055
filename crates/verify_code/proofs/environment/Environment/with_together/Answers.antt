use Rattle.std.proofs.Common.{subst, sym}
use Rattle.std.specs.Prelude.{IfSome, map}
use Rattle.std.specs.List.{All}
use Rattle.verify_types.specs.Environment.{Environment}
use Rattle.verify_frames.specs.declared.wanted.Wanted.{Wanted}
use Rattle.verify_frames.specs.Wanted.{IsAsked}
use Rattle.verify_code.specs.Accepted.{row_in}
use Rattle.verify_code.specs.Guards.{guard_in}
use Rattle.verify_code.specs.Merged.{AskSame}
use Rattle.verify_code.proofs.environment.Environment.with_together.Goals as goal

pub invariant_of-result : goal.invariant_of-result
invariant_of-result g c =
    let t = c.args.together in
    record {
      mapped = c.self.invariant.mapped;
      are = c.self.invariant.are;
      in_order = c.self.invariant.in_order;
      guarded = subst (λ (e : Environment). AskSame e (map guard_in t.guards.items) e.handlers) (sym c.self.view_is) c.requires.alike;
      sorted = λ is. c.requires.sorted;
      asked = subst (λ (e : Environment). IfSome t.wanted (λ (x : Wanted). All (IsAsked e.map x) (map row_in t.guards.items))) (sym c.self.view_is) c.requires.asked;
    }
