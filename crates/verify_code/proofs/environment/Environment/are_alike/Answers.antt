use Rattle.std.proofs.Common.{ap, ◌∙◌}
use Rattle.verify_types.specs.Environment.{Environment}
use Rattle.verify_code.specs.Merged.{AsksLocals}
use Rattle.verify_code.proofs.MergedLaws.{alike_shared, of_true}
use Rattle.verify_code.proofs.environment.Environment.are_alike.Goals as goal

pub returns-in-Some : goal.returns-in-Some
returns-in-Some g c =
    let env = c.args.self.now in
    alike_shared env c.self.inside.frames c.args.a c.args.b c.in-Some.field-0 c.from.result c.from-2.result
    (c.self.invariant.are ∙ ap (λ (e : Environment). e.map) c.self.view_is) c.from.ensures c.from-2.ensures
    (of_true c.asks_locals.result (AsksLocals env c.args.a) c.if-not-asks_locals.false c.asks_locals.ensures)
    (of_true c.asks_locals-2.result (AsksLocals env c.args.b) c.if-not-asks_locals-2.false c.asks_locals-2.ensures)
    c.in-Some.ensures
