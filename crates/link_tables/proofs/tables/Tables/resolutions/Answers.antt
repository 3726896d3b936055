use Rattle.std.proofs.Common.{ℕ, List, [], get_or, map, ap, ◌∙◌}
use Rattle.link_model.specs.declared.sites.Resolution.{Resolution}
use Rattle.link_model.specs.Resolutions.{numbered}
use Rattle.link_model.specs.World.{World}
use Rattle.link_resolution.specs.Tables.{row_at}
use Rattle.link_tables.proofs.NumberLaws.{row_named}
use Rattle.link_tables.proofs.tables.Tables.resolutions.Goals as goal

pub returns : goal.returns
returns c =
    let a = c.self.inside in
    let table = a.code_tables.resolutions.table.items in
    ap (λ (t : List Resolution). map (numbered t) c.row_at.result.now) c.deref-2.ensures.value
    ∙ ap (λ (ns : List ℕ). map (numbered table) ns) (c.row_at.ensures ∙ ap (λ (nss : List (List ℕ)). row_at nss c.args.method) c.deref.ensures.value)
    ∙ row_named table a.code_tables.resolutions.numbers.items c.args.method
    ∙ ap (λ (w : World). get_or w.resolutions c.args.method []) c.self.view_is
