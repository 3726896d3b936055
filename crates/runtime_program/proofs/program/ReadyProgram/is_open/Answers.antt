use Rattle.std.proofs.Common.{Bool, List, false, ap, ◌∙◌}
use Rattle.std.specs.Prelude.{slice_get, unwrap_or}
use Rattle.link_model.specs.World.{World}
use Rattle.invocation.specs.Places.{is_open}
use Rattle.runtime_program.proofs.TableLaws.{open_are}
use Rattle.runtime_program.proofs.program.ReadyProgram.is_open.Goals as goal

pub returns : goal.returns
returns c =
    c.flag_entry.ensures
    ∙ ap (λ (xs : List Bool). unwrap_or (slice_get xs c.args.n) false) (c.deref.ensures.value ∙ c.self.invariant.open_methods)
    ∙ open_are c.self.inside.prepared c.args.n
    ∙ ap (λ (w : World). is_open w c.args.n) c.self.view_is
