use Rattle.std.proofs.Common.{[], ◌∷◌, ◌∙◌, ap, arith}
use Rattle.turn_lock.specs.Moves.{Mine}
use Rattle.turn_lock.proofs.DealLaws.{calm, idle_seat, joined_all, last_idle, regrouped, whole_view}
use Rattle.turn_lock.proofs.PlaceLaws.{same_table}
use Rattle.turn_lock.proofs.SeatLaws.{joins}
use Rattle.turn_lock.proofs.dealing.collect.Goals as goal

pub loop-seat-init : goal.loop-seat-init
loop-seat-init g c =
    let t = c.args.table.now in
    let made = c.into_seat-all.ensures in
    let badge = c.into_badge.ensures in
    let idle = last_idle t.table_id c.args.seats.items c.pop.new.self.items c.in-Some.last c.requires.idle c.in-Some.ensures.items in (
      same_table _ _ _ _ made.0 badge.lock idle.this,
      (c.in-Some.last ∷ [], c.in-Some.ensures.items, whole_view t.table_id c.in-Some.last c.into_badge.result.views c.into_seat-all.result.me idle badge.view made.2 made.3),
    )

pub join_seat-requires : goal.join_seat-requires
join_seat-requires g c =
    let t = c.args.table.now in
    let kept = c.loop-seat.invariant in
    let place = c.into_seat-place.result in
    let made = c.into_seat-place.ensures in
    let badge = c.into_badge-in-Some-pop.ensures in
    let idle = idle_seat t.table_id c.args.seats.items c.loop-seat.seats.items c.pop-in-loop-seat.new.self.items kept.1.0 c.in-Some-pop.seat c.requires.idle kept.1.1 c.in-Some-pop.ensures.items in (
      same_table _ _ _ _ made.0 badge.lock idle.this,
      kept.0,
      ap (λ (m : Mine g.row.V.Denot). m.1) kept.1.2,
      (let words = c.requires.table.words in omega arith),
      joins g.V.Kept.history g.V.Kept.setting t.key.initial.value t.key.seats place.id place.me.0 c.loop-seat.all.id c.loop-seat.all.me.0
          (calm t.table_id c.in-Some-pop.seat c.into_badge-in-Some-pop.result.views place.me.0 idle badge.view made.2)
          (ap (λ (m : Mine g.row.V.Denot). m.0.holds) kept.1.2),
    )

pub loop-seat-preserved : goal.loop-seat-preserved
loop-seat-preserved g c =
    let t = c.args.table.now in
    let kept = c.loop-seat.invariant in
    let s = c.in-Some-pop.seat in
    let place = c.into_seat-place.result in
    let made = c.into_seat-place.ensures in
    let badge = c.into_badge-in-Some-pop.ensures in
    let idle = idle_seat t.table_id c.args.seats.items c.loop-seat.seats.items c.pop-in-loop-seat.new.self.items kept.1.0 s c.requires.idle kept.1.1 c.in-Some-pop.ensures.items in (
      c.join_seat.ensures.0 ∙ same_table _ _ _ _ made.0 badge.lock idle.this,
      (
        s ∷ kept.1.0,
        regrouped c.args.seats.items c.loop-seat.seats.items c.pop-in-loop-seat.new.self.items kept.1.0 s kept.1.1 c.in-Some-pop.ensures.items,
        joined_all t.table_id s kept.1.0 c.into_badge-in-Some-pop.result.views place.me c.loop-seat.all.me c.join_seat.new.seat.me idle badge.view made.2 made.3 kept.1.2 c.join_seat.ensures.2,
      ),
    )
