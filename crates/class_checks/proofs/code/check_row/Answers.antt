use Rattle.std.proofs.Common.{◌≡◌, ℕ, List, [], ◌∷◌, map, Option, ap, ◌∙◌}
use Rattle.std.specs.Prelude.{nat_lt, nat_le}
use Rattle.class_grammar.specs.declared.class_why.ClassWhy.{ClassWhy}
use Rattle.class_grammar.specs.declared.class_why.ClassWhy.TheVariants.{Range}
use Rattle.class_grammar.specs.Checks.{left_after, u2_item, unless, catch_fault}
use Rattle.class_checks.proofs.code.check_row.Goals as goal

pub returns : goal.returns
returns c =
    let row = c.args.row.now in
    let end : c.unless-2.result ≡ unless (nat_le row.end c.args.size) Range = c.unless-2.ensures ∙ ap (λ (n : ℕ). unless (nat_le n c.args.size) Range) c.from-end.ensures in
    let handler : c.unless-3.result ≡ unless (nat_lt row.handler c.args.size) Range = c.unless-3.ensures ∙ ap (λ (n : ℕ). unless (nat_lt n c.args.size) Range) c.from-handler.ensures in
    let start : c.unless.result ≡ unless (nat_lt row.start row.end) Range = c.unless.ensures in
    let same : (c.unless.result ∷ c.unless-2.result ∷ c.unless-3.result ∷ c.catch_fault.result ∷ [])
    ≡ (unless (nat_lt row.start row.end) Range ∷ unless (nat_le row.end c.args.size) Range ∷ unless (nat_lt row.handler c.args.size) Range ∷ catch_fault c.args.pool.now row.catch_type ∷ []) = cc in
    c.check_numbers.ensures ∙ ap (λ (fs : List (Option ClassWhy)). left_after c.args.left (map u2_item fs)) same
