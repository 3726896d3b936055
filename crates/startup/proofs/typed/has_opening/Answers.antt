use Rattle.std.proofs.Common.{sym, subst}
use Rattle.link_model.specs.World.{World}
use Rattle.verify_types.specs.Typing.{AreTyped}
use Rattle.step_soundness.specs.OpeningLaws.{IsMain}
use Rattle.link_soundness.specs.Begins.{MayBegin}
use Rattle.link_soundness.specs.OpeningClasses.{HasOpeningClasses}
use Rattle.startup.proofs.typed.has_opening.Goals as goal

pub returns-clause-classes : goal.returns-clause-classes
returns-clause-classes c =
    let linked = c.is_linked.ensures.linked in
    let main = subst (λ (w : World). IsMain w c.args.main) linked c.requires.main in
    subst HasOpeningClasses (sym linked)
    (c.linked_classes_open.ensures c.args.program.now.program c.args.main c.is_linked.ensures.links c.requires.library main)

pub returns-clause-begins : goal.returns-clause-begins
returns-clause-begins c =
    let linked = c.is_linked.ensures.linked in
    subst MayBegin (sym linked)
    (c.linked_programs_begin.ensures c.args.program.now.program c.is_linked.ensures.links c.requires.library
    (subst AreTyped linked c.is_linked.ensures.typed))
