use Rattle.std.proofs.Common.{◌++◌, List, map, subst, ◌∙◌}
use Rattle.link_model.specs.declared.sites.Resolution.{Resolution}
use Rattle.link_tables.specs.Linkings.{linking_in}
use Rattle.link_tables.specs.Resolutions.{resolutions_in}
use Rattle.link_tables.specs.ResolutionTables.{AreListsOf}
use Rattle.link_tables.proofs.ResolutionLaws.{resolutions_are}
use Rattle.link_tables.proofs.resolutions.add_numbers.Goals as goal

pub returns-clause-lists : goal.returns-clause-lists
returns-clause-lists c = λ xss e.
    let l = linking_in c.args.l in
    let named = resolutions_in l c.args.class c.args.file.now.pool in
    subst (λ (yss : List (List Resolution)). AreListsOf c.code_numbers.new.resolutions.table.items c.code_numbers.new.resolutions.numbers.items (xss ++ yss))
    ((λ i. map (resolutions_in l c.args.class (c.deref.ensures i)) (c.requires.codes i)) ∙ resolutions_are l c.args.class c.args.file.now.pool c.args.file.now.methods)
    (c.in_ok-code_numbers.ensures.lists xss e)
