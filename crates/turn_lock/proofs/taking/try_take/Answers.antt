use Rattle.std.proofs.Common.{◌+◌, Some, ap, arith, refl}
use Rattle.turn_lock.specs.Moves.{Mine}
use Rattle.turn_lock.specs.Views.{seen_of}
use Rattle.turn_lock.proofs.PlaceLaws.{down_view, first_slot, not_taken, same_table, some_found, taken, taken_all}
use Rattle.turn_lock.proofs.TurnLaws.{puts_down, takes_turn}
use Rattle.turn_lock.proofs.taking.try_take.Goals as goal

pub compare_exchange-found-requires : goal.compare_exchange-found-requires
compare_exchange-found-requires g c =
    let t = c.args.table.now in
    let place = c.args.place.now in (
      c.requires.lock,
      (let words = c.requires.table.words in omega arith),
      takes_turn g.V.Kept.history g.V.Kept.setting t.key.initial.value t.key.seats g.A.Admits.admits c.requires.admits t.table_id.slots place.id c.args.number (c.from.result + 1) (seen_of place.me.0) place.me
          (ap (λ n. n + 1) c.from.ensures) c.requires.view,
    )

pub exchange-requires : goal.exchange-requires
exchange-requires g c =
    let place = c.args.place.now in
    let next = c.compare_exchange-found.new.seat in
    let r = taken g.V.Kept.history g.A.Admits.admits place.me c.compare_exchange-found.result next.me c.if-found-ne0.false c.compare_exchange-found.ensures.2 in (
      same_table _ _ _ _ c.compare_exchange-found.ensures.0 c.requires.lock refl,
      (Some r.0, first_slot next.me.1 (0, Some r.0) place.me.1 (ap (λ (m : Mine g.row.V.Denot). m.1) r.1.after)),
    )

pub load-requires : goal.load-requires
load-requires g c =
    let t = c.args.table.now in
    let place = c.args.place.now in
    let next = c.compare_exchange-found.new.seat in
    let out = c.exchange.new.seat in
    let r = taken g.V.Kept.history g.A.Admits.admits place.me c.compare_exchange-found.result next.me c.if-found-ne0.false c.compare_exchange-found.ensures.2 in (
      same_table _ _ _ _ c.exchange.ensures.0 c.compare_exchange-found.ensures.0 c.requires.lock,
      (let words = c.requires.table.words in omega arith),
      puts_down g.V.Kept.history g.V.Kept.setting t.key.initial.value t.key.seats t.table_id.slots out.id c.args.number (g.V.Kept.history r.0) out.me c.requires.table.slots
          (down_view c.args.number (seen_of place.me.0) (g.V.Kept.history r.0) r.0 place.me next.me out.me c.requires.view r.1.after c.exchange.ensures.3),
    )

pub returns-clause-ok : goal.returns-clause-ok
returns-clause-ok g c =
    let history = g.V.Kept.history in
    let admits = g.A.Admits.admits in
    let place = c.args.place.now in
    let next = c.compare_exchange-found.new.seat in
    let r = taken history admits place.me c.compare_exchange-found.result next.me c.if-found-ne0.false c.compare_exchange-found.ensures.2 in
    taken_all history admits c.args.number place.me next.me c.exchange.new.seat.me c.load.new.seat.me r.0 c.unwrap-value.result c.exchange.result c.requires.view r.1
    c.exchange.ensures.2 c.unwrap-value.ensures c.exchange.ensures.3 c.load.ensures.2

pub unwrap-value-requires : goal.unwrap-value-requires
unwrap-value-requires g c =
    let place = c.args.place.now in
    let next = c.compare_exchange-found.new.seat in
    let r = taken g.V.Kept.history g.A.Admits.admits place.me c.compare_exchange-found.result next.me c.if-found-ne0.false c.compare_exchange-found.ensures.2 in
    some_found place.me next.me _ r.0 c.exchange.result r.1.after c.exchange.ensures.2

pub returns-then-found-ne0-clause-err : goal.returns-then-found-ne0-clause-err
returns-then-found-ne0-clause-err g c = not_taken c.compare_exchange-found.result _ _ c.if-found-ne0.true c.compare_exchange-found.ensures.2
