use Rattle.std.proofs.Common.{◌∙◌, ◌<◌, ◌≤◌, true, length, ap, arith, refl}
use Rattle.turn_lock.specs.Badges.{only_view}
use Rattle.turn_lock.specs.Views.{seen_of, view_of}
use Rattle.turn_lock.proofs.PlaceLaws.{begins_counting, counted_all, counts_next, given_view, one_counted, place_view, same_table}
use Rattle.turn_lock.proofs.TurnLaws.{picks_up}
use Rattle.turn_lock.proofs.taking.give_value.Goals as goal

pub load-requires : goal.load-requires
load-requires g c =
    let t = c.args.table.now in
    let begun = c.into_seat-place.result in
    let made = c.into_seat-place.ensures in
    let seen = seen_of (only_view c.args.badge.views) in (
      made.0 ∙ c.requires.lock,
      (let words = c.requires.table.words in omega arith),
      picks_up g.V.Kept.history g.V.Kept.setting t.key.initial.value t.key.seats t.table_id.slots begun.id c.args.number seen begun.me
          (place_view c.args.badge.views (view_of true c.args.number seen) begun.me c.requires.view made.2 made.3),
    )

pub loop-n-init : goal.loop-n-init
loop-n-init g c =
    let made = c.into_seat-place.ensures in
    let seen = seen_of (only_view c.args.badge.views) in (
      same_table _ _ _ _ c.load.ensures.0 made.0 c.requires.lock,
      begins_counting c.args.number c.args.count seen (g.V.Kept.history c.args.value) c.into_seat-place.result.me c.load.new.seat.me c.requires.count c.requires.continues
          (place_view c.args.badge.views (view_of true c.args.number seen) c.into_seat-place.result.me c.requires.view made.2 made.3) c.load.ensures.2,
    )

pub compare_exchange_with-requires : goal.compare_exchange_with-requires
compare_exchange_with-requires g c =
    let t = c.args.table.now in
    let place = c.loop-n.place in
    let seen = seen_of (only_view c.args.badge.views) in
    let entries = ap length c.entries.ensures.entries in
    let from : length seen ≤ c.loop-n.n = (let low = c.loop-n.auto.n in let is = c.requires.count in omega arith) in
    let low : c.loop-n.n < length (g.V.Kept.history c.args.value) = (let test = c.loop-n-test.true in omega arith) in (
      c.loop-n.invariant.0,
      (let words = c.requires.table.words in omega arith),
      counts_next g.V.Kept.history g.V.Kept.setting t.key.initial.value t.key.seats t.table_id.slots place.id c.args.number c.loop-n.n seen place.me c.args.value
          c.requires.continues from low c.loop-n.invariant.1,
    )

pub end_turn-requires-clause-counted : goal.end_turn-requires-clause-counted
end_turn-requires-clause-counted g c =
    let entries = ap length c.entries.ensures.entries in
    let end : length (g.V.Kept.history c.args.value) ≤ c.loop-n.n = (let test = c.loop-n-test.false in omega arith) in
    counted_all g.V.Kept.history c.args.number c.loop-n.n c.args.value c.loop-n.place.me end c.loop-n.invariant.1

pub loop-n-preserved : goal.loop-n-preserved
loop-n-preserved g c =
    let history = g.V.Kept.history c.args.value in
    let entries = ap length c.entries.ensures.entries in
    let low : c.loop-n.n < length history = (let test = c.loop-n-test.true in omega arith) in (
      same_table _ _ _ _ c.compare_exchange_with.ensures.0 c.loop-n.invariant.0 refl,
      one_counted c.args.number c.loop-n.n history c.loop-n.place.me c.compare_exchange_with.new.seat.me low c.loop-n.invariant.1 c.compare_exchange_with.ensures.2,
    )

pub returns-clause-view : goal.returns-clause-view
returns-clause-view g c =
    let history = g.V.Kept.history c.args.value in
    let entries = ap length c.entries.ensures.entries in
    let end : length history ≤ c.loop-n.n = (let test = c.loop-n-test.false in omega arith) in
    given_view c.args.number c.loop-n.n history c.loop-n.place.me c.end_turn.new.place.me c.into_badge.result.views end c.loop-n.invariant.1 c.end_turn.ensures.view c.into_badge.ensures.2
