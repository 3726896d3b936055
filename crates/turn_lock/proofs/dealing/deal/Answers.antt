use Rattle.std.proofs.Common.{◌≡◌, ◌<◌, ◌+◌, ◌-◌, ◌∙◌, [], ◌∷◌, length, ap, arith}
use Rattle.std.proofs.lemmas.List.FromFn.{length-map-range_with_len}
use Rattle.turn_lock.specs.Moves.{Mine}
use Rattle.turn_lock.specs.Seats.{new_seat}
use Rattle.turn_lock.proofs.DealLaws.{last_blank, last_seat, one_more_seat, others_blank, own_blank}
use Rattle.turn_lock.proofs.SeatLaws.{splits}
use Rattle.turn_lock.proofs.dealing.deal.Goals as goal

pub split_seat-others-requires : goal.split_seat-others-requires
split_seat-others-requires g c =
    let t = c.args.table.now in
    let rest = c.loop-number.rest in (
      c.loop-number.invariant.0 ∙ c.requires.lock,
      (let words = c.requires.table.words in omega arith),
      splits g.V.Kept.history g.V.Kept.setting t.key.initial.value t.key.seats rest.id rest.me.0 (ap (λ (m : Mine g.row.V.Denot). m.0.holds) c.loop-number.invariant.1),
    )

pub new-requires : goal.new-requires
new-requires g c =
    let low : c.loop-number.number < c.args.seats = omega arith in
    own_blank c.loop-number.number c.args.seats c.loop-number.rest.me c.into_badge.result.views low c.loop-number.invariant.1
    (c.into_badge.ensures.2 ∙ ap (λ (m : Mine g.row.V.Denot). m.0 ∷ []) c.split_seat-others.ensures.2)

pub push_reserved-requires : goal.push_reserved-requires
push_reserved-requires g c =
    let many = ap length c.loop-number.invariant.2 ∙ length-map-range_with_len (new_seat c.args.table.now.table_id) 0 c.loop-number.number in
    let room = c.loop-number.invariant.3 in
    let held = c.loop-number.list.ok.0 in omega arith

pub loop-number-preserved : goal.loop-number-preserved
loop-number-preserved g c =
    let low : c.loop-number.number < c.args.seats = omega arith in (
      c.split_seat-others.ensures.3 ∙ c.loop-number.invariant.0,
      others_blank c.loop-number.number c.args.seats c.loop-number.rest.me c.split_seat-others.result.me low c.loop-number.invariant.1 c.split_seat-others.ensures.4,
      one_more_seat c.args.table.now.table_id c.into_badge.result.table_id c.loop-number.number c.loop-number.list.items c.push_reserved.new.self.items c.new.result c.loop-number.invariant.2
          (c.into_badge.ensures.0 ∙ c.split_seat-others.ensures.0 ∙ c.loop-number.invariant.0 ∙ c.requires.lock) c.new.ensures c.push_reserved.ensures.items,
      (let room = c.loop-number.invariant.3 in let same = c.push_reserved.ensures.capacity in omega arith),
    )

pub new-requires-2 : goal.new-requires-2
new-requires-2 g c =
    let last = c.args.seats - 1 in
    let here : c.loop-number.number ≡ last = omega arith in
    let all : last + 1 ≡ c.args.seats = (let some = c.requires.some in omega arith) in
    last_blank c.loop-number.number last c.args.seats c.loop-number.rest.me c.into_badge-2.result.views here all c.loop-number.invariant.1 c.into_badge-2.ensures.2

pub push_reserved-requires-2 : goal.push_reserved-requires-2
push_reserved-requires-2 g c =
    let many = ap length c.loop-number.invariant.2 ∙ length-map-range_with_len (new_seat c.args.table.now.table_id) 0 c.loop-number.number in
    let some = c.requires.some in
    let room = c.loop-number.invariant.3 in
    let held = c.loop-number.list.ok.0 in omega arith

pub returns : goal.returns
returns g c =
    let last = c.args.seats - 1 in
    let here : c.loop-number.number ≡ last = omega arith in
    let all : last + 1 ≡ c.args.seats = (let some = c.requires.some in omega arith) in
    last_seat c.args.table.now.table_id c.into_badge-2.result.table_id c.loop-number.number last c.args.seats c.loop-number.list.items c.push_reserved-2.new.self.items c.new-2.result here all
    c.loop-number.invariant.2 (c.into_badge-2.ensures.0 ∙ c.loop-number.invariant.0 ∙ c.requires.lock) c.new-2.ensures c.push_reserved-2.ensures.items
