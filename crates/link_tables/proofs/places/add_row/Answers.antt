use Rattle.std.proofs.Common.{None, get_or, refl}
use Rattle.link_tables.specs.Places.{is_own}
use Rattle.link_tables.proofs.PlaceLaws.{row_more}
use Rattle.link_tables.proofs.places.add_row.Goals as goal

pub loop-place-preserved : goal.loop-place-preserved
loop-place-preserved c =
    λ q. row_more c.args.row.now c.loop-place.place (get_or c.args.row.now c.loop-place.place 0) q (is_own c.args.fields.now c.args.class q)
    (get_or c.args.places.now.items q None) (get_or c.loop-place.places.items q None) (get_or c.add_place.new.places.items q None)
    c.loop-place-test.true refl (c.loop-place.invariant q) (c.in_ok-add_place.ensures q)
