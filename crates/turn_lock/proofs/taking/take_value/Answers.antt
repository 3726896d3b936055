use Rattle.std.proofs.Common.{false}
use Rattle.turn_lock.specs.Badges.{only_view}
use Rattle.turn_lock.specs.Views.{seen_of, view_of}
use Rattle.turn_lock.proofs.PlaceLaws.{own_view, place_view}
use Rattle.turn_lock.proofs.taking.take_value.Goals as goal

pub try_take-requires-clause-view : goal.try_take-requires-clause-view
try_take-requires-clause-view g c =
    let made = c.into_seat-place.ensures in
    let seen = seen_of (only_view c.args.badge.views) in
    own_view c.args.number seen c.into_seat-place.result.me
    (place_view c.args.badge.views (view_of false c.args.number seen) c.into_seat-place.result.me c.requires.view made.2 made.3)
