use Rattle.std.proofs.Common.{◌≡◌, ℕ, List, [], Option, None, get_or, slice_get, unwrap_or, sym, ap, ◌∙◌}
use Rattle.std.specs.Option.{option_copied}
use Rattle.std.proofs.lemmas.Option.{unwrap_or-slice_get}
use Rattle.link_model.specs.World.{World}
use Rattle.link_tables.proofs.tables.Tables.name.Goals as goal

pub returns-in-None : goal.returns-in-None
returns-in-None c =
    let names = c.names.result.now in
    let none : slice_get names c.args.n ≡ None = sym c.text.ensures ∙ ap option_copied c.in-None.is in
    ap (λ (o : Option (List ℕ)). unwrap_or o []) (sym none)
    ∙ unwrap_or-slice_get names c.args.n []
    ∙ ap (λ (ns : List (List ℕ)). get_or ns c.args.n []) c.names.ensures
    ∙ ap (λ (w : World). get_or w.names c.args.n []) c.self.view_is
