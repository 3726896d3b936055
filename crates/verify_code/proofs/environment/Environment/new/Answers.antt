use Rattle.std.proofs.Common.{List, subst, sym, ◌∙◌}
use Rattle.std.specs.Prelude.{map}
use Rattle.link_model.specs.Resolutions.{meanings}
use Rattle.class_model.specs.declared.attribute.Row.{Row}
use Rattle.verify_types.specs.Environment.{with_catches}
use Rattle.verify_code.specs.Guards.{AskAlike, guard_in}
use Rattle.verify_code.proofs.EnvironmentLaws.{has_frames}
use Rattle.verify_code.proofs.environment.Environment.new.Goals as goal

pub invariant_of-result : goal.invariant_of-result
invariant_of-result g c =
    let method = c.args.method in
    has_frames (g.L.Lookups.world c.args.world.now) method.info.now method.code.now (meanings method.resolutions) method.catches.now
    c.in-Some.frames c.in_ok-guards.guards.items (sym c.in-Some.is ∙ c.in_ok-frames.ensures) c.requires
    (subst (λ (rs : List Row). AskAlike (map guard_in c.in_ok-guards.guards.items) (with_catches rs method.catches.now)) c.deref.ensures c.in_ok-guards.ensures)
