use Rattle.std.proofs.Common.{Some, ap, ◌∙◌}
use Rattle.link_model.specs.declared.sites.Resolution.{Resolution}
use Rattle.link_tables.specs.KnownResolutions.{is_derived}
use Rattle.link_tables.specs.Linkings.{linking_in}
use Rattle.link_tables.proofs.KnownResolutionLaws.{known_there, knows_extended, knows_noted}
use Rattle.link_tables.proofs.known_resolutions.known_number.Goals as goal

pub returns-in-Some-clause-number : goal.returns-in-Some-clause-number
returns-in-Some-clause-number c =
    known_there (linking_in c.args.l) c.args.class c.args.pool.now c.args.table.now.items c.args.known.now (is_derived c.args.used) c.requires
    c.args.index (record { used = c.args.used; number = c.in-Some.number }) c.in-Some.ensures

pub returns-clause-known : goal.returns-clause-known
returns-clause-known c =
    let l = linking_in c.args.l in
    let pool = c.args.pool.now in
    let table = c.add_resolution.new.table.items in
    knows_noted l c.args.class pool table c.args.known.now c.note.new.self c.args.used c.in_ok-number.number c.args.index
    (c.in_ok-number.ensures.number ∙ ap (λ (x : Resolution). Some x) c.in_ok-resolution.ensures) c.note.ensures.direct c.note.ensures.derived
    (knows_extended l c.args.class pool c.args.table.now.items table c.args.known.now c.in_ok-number.ensures.extends c.requires)
