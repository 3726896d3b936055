use Rattle.std.proofs.Common.{◌≡◌, ◌+◌, ◌<◌, ℕ, List, length, take, get_or, ap, subst, ◌∙◌, arith, rules}
use Rattle.std.specs.List.{sum}
use Rattle.std.specs.Vec.{vec_len}
use Rattle.link_model.specs.Numbering.{Numbering}
use Rattle.link_numbers.specs.Starts.{starts_of}
use Rattle.link_numbers.proofs.StartLaws.{length-starts, get_or-starts, ends_inside}
use Rattle.link_numbers.proofs.array_numbers.ArrayNumbers.start.Goals as goal

pub index-requires : goal.index-requires
index-requires c =
    let n = c.args.self.now in
    let starts : c.self.inside.starts.items ≡ starts_of (length n.names) n.depths = c.self.invariant.starts ∙ ap (λ (m : Numbering). starts_of (length m.names) m.depths) c.self.view_is in
    let size : vec_len c.self.inside.starts ≡ length c.self.inside.starts.items = search rules in
    omega (arith, size, ap length starts, length-starts (length n.names) n.depths)

pub returns-clause-start : goal.returns-clause-start
returns-clause-start c =
    let n = c.args.self.now in
    let starts : c.self.inside.starts.items ≡ starts_of (length n.names) n.depths = c.self.invariant.starts ∙ ap (λ (m : Numbering). starts_of (length m.names) m.depths) c.self.view_is in
    c.index.ensures ∙ ap (λ (xs : List ℕ). get_or xs c.args.index c.index.result.now) starts
    ∙ get_or-starts (length n.names) n.depths c.args.index c.index.result.now c.requires

pub returns-clause-fits : goal.returns-clause-fits
returns-clause-fits c =
    let n = c.args.self.now in
    let starts : c.self.inside.starts.items ≡ starts_of (length n.names) n.depths = c.self.invariant.starts ∙ ap (λ (m : Numbering). starts_of (length m.names) m.depths) c.self.view_is in
    let few : length n.names + sum n.depths < 4294967296 = subst (λ (m : Numbering). length m.names + sum m.depths < 4294967296) c.self.view_is c.self.invariant.few in
    let is : c.index.result.now ≡ length n.names + sum (take c.args.index n.depths) = c.index.ensures ∙ ap (λ (xs : List ℕ). get_or xs c.args.index c.index.result.now) starts
    ∙ get_or-starts (length n.names) n.depths c.args.index c.index.result.now c.requires in
    omega (arith, ends_inside n.depths c.args.index, is, few)
