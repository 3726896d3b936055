use Rattle.std.proofs.Common.{◌≡◌, ◌-◌, ℕ, [], List, arith, ap, subst, ◌∙◌}
use Rattle.std.specs.Prelude.{slice_get, MatchOption}
use Rattle.type_paths.specs.Paths.{Path, path, paths_from, root, IsTop}
use Rattle.type_paths.proofs.PathLaws.{got, first_is, top_or_none}
use Rattle.type_paths.proofs.paths.Paths.top.Goals as goal

pub returns-then-n-eq0 : goal.returns-then-n-eq0
returns-then-n-eq0 c =
    let none : 0 ≡ c.args.n = omega (arith, c.if-n-eq0.true) in
    subst (λ (ps : List Path). path ps c.args.n ≡ []) c.self.view_is (subst (λ (n : ℕ). path (paths_from root c.self.inside.nodes.items) n ≡ []) none (first_is c.self.inside.nodes.items))

pub returns : goal.returns
returns c =
    let ns = c.self.inside.nodes.items in
    let is : c.copied.result ≡ slice_get ns (c.args.n - 1) = c.copied.ensures ∙ got c.as_slice-nodes.result.now (c.args.n - 1) c.get.result c.get.ensures.lookup.0 c.get.ensures.lookup.1 ∙ ap (λ xs. slice_get xs (c.args.n - 1)) c.as_slice-nodes.ensures.value in
    subst (λ (ps : List Path). MatchOption c.copied.result (path ps c.args.n ≡ []) (IsTop ps c.args.n)) c.self.view_is
    (top_or_none ns c.args.n c.copied.result (omega (arith, c.if-n-eq0.false)) c.self.invariant is)
