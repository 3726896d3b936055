use Rattle.std.proofs.Common.{◌≡◌, ℕ, suc, ◌+◌, ◌-◌, List, [], ◌∷◌, reverse, sym, ap, ◌∙◌, arith}
use Rattle.std.proofs.lemmas.List.{nil_from_length}
use Rattle.std.proofs.lemmas.Grind.{common_steps}
use Rattle.link_rules.specs.Hierarchy.{visit}
use Rattle.link_resolution.specs.Tables.{above}
use Rattle.link_resolution.proofs.Visits.{visit_step, visit_none}
use Rattle.link_resolution.proofs.hierarchy.visit.Goals as goal

pub loop-preserved : goal.loop-preserved
loop-preserved c =
    let turned : reverse c.loop.todo.items ≡ c.in-Some.class ∷ reverse c.pop.new.self.items = ap reverse c.in-Some.ensures.items ∙ grind (arith, common_steps) in
    let left : suc (c.args.most - (c.loop.counter + 1)) ≡ c.args.most - c.loop.counter = omega arith in
    visit_step (above c.args.stacked.now) (c.args.most - (c.loop.counter + 1)) c.in-Some.class (reverse c.pop.new.self.items) c.loop.seen (reverse c.meet.new.todo.items) c.meet.new.seen c.in_ok-meet.ensures.todo c.in_ok-meet.ensures.seen
    ∙ ap (λ xs. visit (above c.args.stacked.now) (suc (c.args.most - (c.loop.counter + 1))) xs c.loop.seen) (sym turned)
    ∙ ap (λ n. visit (above c.args.stacked.now) n (reverse c.loop.todo.items) c.loop.seen) left
    ∙ c.loop.invariant

pub returns-in_default : goal.returns-in_default
returns-in_default c =
    let empty : c.loop.todo.items ≡ [] = nil_from_length c.loop.todo.items (omega (arith, c.in_default.ensures.cases.0)) in
    sym (visit_none (above c.args.stacked.now) (c.args.most - c.loop.counter) c.loop.seen)
    ∙ ap (λ (xs : List ℕ). visit (above c.args.stacked.now) (c.args.most - c.loop.counter) (reverse xs) c.loop.seen) (sym empty) ∙ c.loop.invariant

pub returns : goal.returns
returns c =
    let none : c.args.most - c.loop.counter ≡ 0 = omega arith in
    ap (λ n. visit (above c.args.stacked.now) n (reverse c.loop.todo.items) c.loop.seen) (sym none) ∙ c.loop.invariant
