use Rattle.std.proofs.Common.{◌≡◌, ◌<◌, ◌^◌, [], List, length, rules, arith, sym, subst, ◌∙◌}
use Rattle.std.specs.Vec.{vec_len}
use Rattle.type_paths.specs.Paths.{Path, path}
use Rattle.type_paths.proofs.PathLaws.{is_known, first_is, past, short}
use Rattle.type_paths.proofs.paths.Paths.node.Goals as goal

pub returns-then-n-len-clause-known : goal.returns-then-n-len-clause-known
returns-then-n-len-clause-known c =
    let size : vec_len c.self.inside.nodes ≡ length c.self.inside.nodes.items = search rules in
    subst (λ (ps : List Path). c.args.n < length ps) c.self.view_is (is_known c.self.inside.nodes.items c.args.n (omega (arith, c.if-n-len.true, c.len.ensures, size)))

pub returns-then-n-len-clause-first : goal.returns-then-n-len-clause-first
returns-then-n-len-clause-first c = subst (λ (ps : List Path). path ps 0 ≡ []) c.self.view_is (first_is c.self.inside.nodes.items)

pub returns-then-n-len-clause-short : goal.returns-then-n-len-clause-short
returns-then-n-len-clause-short c =
    let ns = c.self.inside.nodes.items in
    let size : vec_len c.self.inside.nodes ≡ length ns = search rules in
    subst (λ (ps : List Path). length (path ps c.args.n) < 2 ^ 63) c.self.view_is (omega (arith, short ns c.args.n, size, c.self.inside.nodes.ok, c.self.inside.nodes.small))

pub returns-else-n-len-clause-known : goal.returns-else-n-len-clause-known
returns-else-n-len-clause-known c = subst (λ (ps : List Path). 0 < length ps) c.self.view_is (is_known c.self.inside.nodes.items 0 (omega arith))

pub returns-else-n-len-clause-path : goal.returns-else-n-len-clause-path
returns-else-n-len-clause-path c =
    let size : vec_len c.self.inside.nodes ≡ length c.self.inside.nodes.items = search rules in
    let ns = c.self.inside.nodes.items in
    subst (λ (ps : List Path). path ps 0 ≡ path ps c.args.n) c.self.view_is (first_is ns ∙ sym (past ns c.args.n (omega (arith, c.if-n-len.false, c.len.ensures, size))))

pub returns-else-n-len-clause-first : goal.returns-else-n-len-clause-first
returns-else-n-len-clause-first c = subst (λ (ps : List Path). path ps 0 ≡ []) c.self.view_is (first_is c.self.inside.nodes.items)

pub returns-else-n-len-clause-short : goal.returns-else-n-len-clause-short
returns-else-n-len-clause-short c =
    let ns = c.self.inside.nodes.items in
    subst (λ (ps : List Path). length (path ps 0) < 2 ^ 63) c.self.view_is (let none = first_is ns in rw none (omega arith))
