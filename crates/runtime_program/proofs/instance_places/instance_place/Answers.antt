use Rattle.std.proofs.Common.{sym, ap, ◌∙◌}
use Rattle.std.specs.Option.{option_copied}
use Rattle.runtime_program.proofs.FieldLaws.{no_place, instance_place}
use Rattle.runtime_program.proofs.instance_places.instance_place.Goals as goal

pub returns-then-is_static : goal.returns-then-is_static
returns-then-is_static c =
    no_place c.args.tables.now c.args.n c.in-Some.field.now (sym c.field.ensures ∙ ap option_copied c.in-Some.is)
    (sym c.is_static.ensures ∙ c.if-is_static.true)

pub returns-else-is_static : goal.returns-else-is_static
returns-else-is_static c =
    c.place.ensures ∙ instance_place c.args.tables.now c.args.n c.in-Some.field.now (sym c.field.ensures ∙ ap option_copied c.in-Some.is)
    (sym c.is_static.ensures ∙ c.if-is_static.false)
