use Rattle.std.proofs.Common.{◌≡◌, ◌<◌, ◌++◌, ◌∷◌, [], List, length, rules, arith, ap, sym, subst, ◌∙◌}
use Rattle.std.specs.Vec.{vec_len}
use Rattle.type_paths.specs.declared.paths.Node.{Node}
use Rattle.type_paths.specs.Paths.{IsTree, Path, count_on, path, paths_from, root}
use Rattle.type_paths.proofs.PathLaws.{all_above, all_counted, count_is, grows}
use Rattle.type_paths.proofs.paths.Paths.push.Goals as goal

pub invariant_of-self-2 : goal.invariant_of-self-2
invariant_of-self-2 c =
    let ns = c.self.inside.nodes.items in
    let m : Node = record { item = c.args.item; below = c.node-node.result; slots = c.in_ok-slots.slots } in
    let low : c.node-node.result < length (paths_from root ns) = subst (λ (ps : List Path). c.node-node.result < length ps) (sym c.self.view_is) c.node-node.ensures.known in
    let more = all_above 1 ns m c.self.invariant.above (omega (arith, low, count_is root ns)) in
    let slots : c.in_ok-slots.slots ≡ count_on (c.args.item ∷ path (paths_from root ns) c.node-node.result) =
    c.in_ok-slots.ensures ∙ ap (λ (ps : List Path). count_on (c.args.item ∷ path ps c.node-node.result)) (sym c.self.view_is) in
    subst IsTree (sym c.in_ok-push.ensures.items) (record { above = more; counted = all_counted ns m c.self.invariant.counted slots })

pub returns-clause-grown : goal.returns-clause-grown
returns-clause-grown c =
    let ns = c.self.inside.nodes.items in
    ap (λ (xs : List Node). paths_from root xs) c.in_ok-push.ensures.items
    ∙ grows root ns (record { item = c.args.item; below = c.node-node.result; slots = c.in_ok-slots.slots })
    ∙ ap (λ (ps : List Path). ps ++ (c.args.item ∷ path ps c.node-node.result) ∷ []) c.self.view_is
    ∙ ap (λ (p : Path). c.args.self.now ++ (c.args.item ∷ p) ∷ []) c.node-node.ensures.path

pub returns-clause-node : goal.returns-clause-node
returns-clause-node c =
    let ns = c.self.inside.nodes.items in
    let size : vec_len c.self.inside.nodes ≡ length ns = search rules in
    let all : length (paths_from root ns) ≡ length c.args.self.now = ap (λ (ps : List Path). length ps) c.self.view_is in
    omega (arith, c.len.ensures, c.in_ok-push.ensures.len, size, all, count_is root ns)
