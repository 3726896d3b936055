use Rattle.std.proofs.Common.{◌≡◌, List, None, cond, get_or, length, ap, ◌∙◌, arith}
use Rattle.std.proofs.Common.{ℕ}
use Rattle.std.specs.Prelude.{position, ◌==◌}
use Rattle.std.specs.Option.{option_or}
use Rattle.link_resolution.specs.Tables.{row_at}
use Rattle.link_tables.specs.Places.{is_own, place_by_first}
use Rattle.link_tables.proofs.PlaceLaws.{class_more, no_class, all_classes}
use Rattle.link_tables.proofs.places.all_places.Goals as goal

pub loop-class-init : goal.loop-class-init
loop-class-init c = λ q. c.in_ok-places.ensures q ∙ no_class c.args.fields.now c.args.rows.now q

pub loop-class-preserved : goal.loop-class-preserved
loop-class-preserved c = λ q.
    let fields = c.args.fields.now in
    let rows = c.args.rows.now in
    let k = c.loop-class.class in
    c.in_ok-add_row.ensures q
    ∙ ap (λ (row : List ℕ). option_or (get_or c.loop-class.places.items q None) (cond (is_own fields k q) (position (λ m. m == q) row) None)) c.row_at.ensures
    ∙ ap (λ o. option_or o (cond (is_own fields k q) (position (λ m. m == q) (row_at rows k)) None)) (c.loop-class.invariant q)
    ∙ class_more fields rows k q

pub returns : goal.returns
returns c = λ q.
    let all : c.loop-class.class ≡ length c.args.rows.now = omega (arith, c.in_ok-count.ensures) in
    c.loop-class.invariant q ∙ ap (λ n. place_by_first n c.args.fields.now c.args.rows.now q) all ∙ all_classes c.args.fields.now c.args.rows.now q
