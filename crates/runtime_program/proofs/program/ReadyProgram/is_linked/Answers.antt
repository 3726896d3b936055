use Rattle.std.proofs.Common.{sym, ap, subst, ◌∙◌}
use Rattle.link_model.specs.World.{World}
use Rattle.link_model.specs.Worlds.{world_of}
use Rattle.verify_types.specs.Typing.{AreTyped}
use Rattle.runtime_program.proofs.program.ReadyProgram.is_linked.Goals as goal

pub returns-clause-linked : goal.returns-clause-linked
returns-clause-linked c = sym c.world.ensures ∙ ap world_of (ap (λ (w : World). w.program) c.world.ensures)

pub returns-clause-typed : goal.returns-clause-typed
returns-clause-typed c = subst AreTyped c.self.view_is c.is_typed.ensures
