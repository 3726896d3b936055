use Rattle.std.proofs.Common.{ℕ, List, length, ap, ◌∙◌}
use Rattle.std.specs.Prelude.{slice_get, unwrap_or}
use Rattle.link_resolution.specs.Tables.{tabulate}
use Rattle.link_model.specs.World.{World}
use Rattle.ref_model.specs.Members.{static_place}
use Rattle.runtime_program.proofs.TableLaws.{counts_are}
use Rattle.runtime_program.proofs.program.ReadyProgram.static_place.Goals as goal

pub returns : goal.returns
returns c =
    let w = c.self.inside.prepared in
    let p = c.self.inside.extra.static_places in
    c.static_place_in.ensures
    ∙ ap (λ (xs : List ℕ). unwrap_or (slice_get xs c.args.field) p.count) c.self.invariant.static_places.places
    ∙ ap (λ (n : ℕ). unwrap_or (slice_get (tabulate (static_place w) (length w.fields)) c.args.field) n) c.self.invariant.static_places.count
    ∙ counts_are w c.args.field
    ∙ ap (λ (v : World). static_place v c.args.field) c.self.view_is
