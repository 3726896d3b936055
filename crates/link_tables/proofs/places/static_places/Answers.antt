use Rattle.std.proofs.Common.{◌≡◌, ap, ◌∙◌, ◌++◌, ◌∷◌, [], length, arith}
use Rattle.link_resolution.specs.Tables.{tabulate}
use Rattle.link_tables.specs.Places.{static_at}
use Rattle.link_tables.proofs.PlaceLaws.{static_more, count_more, statics_are}
use Rattle.link_tables.proofs.places.static_places.Goals as goal

pub loop-field-preserved : goal.loop-field-preserved
loop-field-preserved c =
    let fields = c.args.fields.now in
    let i = c.loop-field.field-index in
    let f = c.field-item.result in (
      static_more fields i f c.loop-field.places.items c.push.new.self.items c.loop-field.before c.loop-field-test.true c.field-item.is c.loop-field.invariant.0 c.loop-field.invariant.1
          (c.in_ok-push.ensures.items ∙ ap (λ o. c.loop-field.places.items ++ o ∷ []) c.static_place.ensures),
      count_more fields i f c.loop-field.before c.in_ok-before.before c.loop-field-test.true c.field-item.is c.loop-field.invariant.1 c.in_ok-before.ensures,
    )

pub returns : goal.returns
returns c =
    let fields = c.args.fields.now in
    let all : c.loop-field.field-index ≡ length fields = omega arith in
    statics_are fields c.loop-field.places.items (c.loop-field.invariant.0 ∙ ap (λ n. tabulate (static_at fields) n) all)
