use Rattle.std.proofs.Common.{ap, sym, subst}
use Rattle.link_model.specs.World.{World}
use Rattle.verify_types.specs.Typing.{AreTyped}
use Rattle.step_soundness.specs.OpeningLaws.{IsMain}
use Rattle.startup.specs.Openings.{setting}
use Rattle.schedule_soundness.specs.TypedLaws.{IsTypedProgram}
use Rattle.machine.proofs.PlainLaws.{begins_unpinned}
use Rattle.machine.proofs.laws.is_accepted.Goals as goal

pub returns : goal.returns
returns c =
    let w = c.args.program.now in
    let linked = c.is_linked.ensures.linked in
    let links = c.is_linked.ensures.links in
    let typed : IsTypedProgram (setting w c.args.main c.args.limits) =
    subst (λ (v : World). IsTypedProgram (setting v c.args.main c.args.limits)) (sym linked)
    (c.histories_are_typed.ensures.linked w.program c.args.main c.args.limits links c.requires.library (subst AreTyped linked c.is_linked.ensures.typed)
    (subst (λ (v : World). IsMain v c.args.main) linked c.requires.main)) in
    record {
      library = c.requires.library;
      typed = typed;
      unpinned = begins_unpinned (setting w c.args.main c.args.limits) (ap (λ (v : World). v.methods) linked) c.requires.plain;
    }
