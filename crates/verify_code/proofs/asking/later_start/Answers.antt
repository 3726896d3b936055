use Rattle.std.proofs.Common.{◌≡◌, false, leb, ap, subst, sym, ◌∙◌}
use Rattle.std.proofs.lemmas.Bool.{leb-false}
use Rattle.std.proofs.lemmas.List.{nil_from_length}
use Rattle.std.specs.Prelude.{map}
use Rattle.std.specs.List.Sorted.{IsNonDecreasingBy}
use Rattle.verify_code.specs.declared.guards.Guard.{Guard}
use Rattle.verify_code.specs.Guards.{guard_in, start_of}
use Rattle.verify_code.specs.Handlers.{nearer, next_start}
use Rattle.verify_code.proofs.AskingLaws.{first_behind, first_decides, past_skipped, rises_behind}
use Rattle.verify_code.proofs.asking.later_start.Goals as goal

pub returns-in-Some : goal.returns-in-Some
returns-in-Some c =
    let gs = c.args.guards.now in
    let n = c.started.result in
    let first = c.in-Some.guard.now in
    let rest = c.in-Some.field-0-1.now in
    let parts = sym c.split_at.ensures.back ∙ c.in-Some.ensures.cases.0 in
    let high = first_behind (λ (g : Guard). leb g.row.start c.args.pc ≡ false) gs n first rest parts c.started.ensures.point.1 in
    let up = subst (λ l. IsNonDecreasingBy start_of l) parts (rises_behind gs n c.requires) in
    c.nearer.ensures
    ∙ ap (nearer c.args.pc 65536) c.from.ensures
    ∙ sym (first_decides c.args.pc 65536 first rest (leb-false first.row.start c.args.pc high) up)
    ∙ ap (λ l. next_start c.args.pc 65536 (map guard_in l)) (sym parts)
    ∙ sym (past_skipped c.args.pc 65536 gs n c.started.ensures.within c.started.ensures.point.0)

pub returns-in-None : goal.returns-in-None
returns-in-None c =
    let gs = c.args.guards.now in
    ap (λ l. next_start c.args.pc 65536 (map guard_in l)) (sym (nil_from_length c.split_at.result.1.now c.in-None.ensures.cases) ∙ c.split_at.ensures.back)
    ∙ sym (past_skipped c.args.pc 65536 gs c.started.result c.started.ensures.within c.started.ensures.point.0)
