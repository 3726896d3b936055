use Rattle.std.proofs.Common.{List, ap, ◌∙◌}
use Rattle.link_resolution.specs.Tables.{row_at}
use Rattle.instruction_rows.specs.declared.value.Value.{Value}
use Rattle.link_model.specs.World.{World}
use Rattle.ref_model.specs.Members.{new_values}
use Rattle.runtime_program.proofs.TableLaws.{values_are}
use Rattle.runtime_program.proofs.program.ReadyProgram.new_values.Goals as goal

pub returns : goal.returns
returns c =
    c.values_at.ensures
    ∙ ap (λ (rows : List (List Value)). row_at rows c.args.class) (c.deref.ensures.value ∙ c.self.invariant.new_values)
    ∙ values_are c.self.inside.prepared c.args.class
    ∙ ap (λ (w : World). new_values w c.args.class) c.self.view_is
