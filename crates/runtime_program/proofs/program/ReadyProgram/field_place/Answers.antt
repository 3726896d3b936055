use Rattle.std.proofs.Common.{ℕ, List, Option, ap, ◌∙◌}
use Rattle.std.specs.Prelude.{slice_get}
use Rattle.std.specs.Option.{option_and_then}
use Rattle.link_model.specs.World.{World}
use Rattle.ref_model.specs.Members.{field_place}
use Rattle.runtime_program.proofs.TableLaws.{instance_places_are}
use Rattle.runtime_program.proofs.program.ReadyProgram.field_place.Goals as goal

pub returns : goal.returns
returns c =
    c.number_entry.ensures
    ∙ ap (λ (xs : List (Option ℕ)). option_and_then (λ o. o) (slice_get xs c.args.field)) (c.deref.ensures.value ∙ c.self.invariant.instance_places)
    ∙ instance_places_are c.self.inside.prepared c.args.field
    ∙ ap (λ (w : World). field_place w c.args.field) c.self.view_is
