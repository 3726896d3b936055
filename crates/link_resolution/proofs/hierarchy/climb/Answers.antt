use Rattle.std.proofs.Common.{◌≡◌, suc, ◌+◌, ◌-◌, ◌++◌, [], ◌∷◌, sym, ap, ◌∙◌, arith, append_assoc}
use Rattle.std.specs.Option.{option_map_or}
use Rattle.link_rules.specs.Hierarchy.{climb}
use Rattle.link_resolution.specs.Tables.{parent_at}
use Rattle.link_resolution.proofs.hierarchy.climb.Goals as goal

pub loop-preserved : goal.loop-preserved
loop-preserved c =
    let left : c.args.most - c.loop.counter ≡ suc (c.args.most - (c.loop.counter + 1)) = omega arith in
    let up = climb (parent_at c.args.parents.now) in
    ap (λ xs. xs ++ option_map_or (up (c.args.most - (c.loop.counter + 1))) c.parent_at-next.result []) c.in_ok-push.ensures.items
    ∙ ap (λ o. (c.loop.line.items ++ c.in-Some.class ∷ []) ++ option_map_or (up (c.args.most - (c.loop.counter + 1))) o []) c.parent_at-next.ensures
    ∙ append_assoc c.loop.line.items (c.in-Some.class ∷ []) (option_map_or (up (c.args.most - (c.loop.counter + 1))) (parent_at c.args.parents.now c.in-Some.class) [])
    ∙ ap (λ n. c.loop.line.items ++ up n c.in-Some.class) (sym left)
    ∙ ap (λ o. c.loop.line.items ++ option_map_or (up (c.args.most - c.loop.counter)) o []) (sym c.in-Some.is)
    ∙ c.loop.invariant
