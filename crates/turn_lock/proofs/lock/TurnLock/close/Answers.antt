use Rattle.std.proofs.Common.{◌∙◌, ap, sym}
use Rattle.std.specs.Prelude.{is_some}
use Rattle.turn_lock.specs.Moves.{Mine}
use Rattle.turn_lock.specs.Seats.{LockState}
use Rattle.turn_lock.proofs.CloseLaws.{Ended, ended_of, ends, ends_with}
use Rattle.turn_lock.proofs.lock.TurnLock.close.Given as given
use Rattle.turn_lock.proofs.lock.TurnLock.close.Goals as goal

pub unwrap-value-requires : goal.unwrap-value-requires
unwrap-value-requires g c =
    let all = c.collect-all.result in
    let key = c.self.inside.table.shared.key in
    let seats = c.requires.count ∙ sym (ap (λ (l : LockState g.row.V.Denot). l.seats) c.self.view_is) in
    let e = ends g.V.Kept.history g.V.Kept.setting key.initial.value key.seats all.id all.me.0 c.args.seats.items _ _ c.take.result c.close_with-closed.ensures.values.2
    (ap (λ (m : Mine g.row.V.Denot). m.0) c.collect-all.ensures.view) seats c.take.ensures.value in
    ap is_some e.1

ended : (g : given.Over) (c : goal.After-free g) → Ended g.V.Kept.history g.V.Kept.setting c.args.self.initial c.args.self.seats c.args.seats.items c.unwrap-value.result
ended g c =
    let all = c.collect-all.result in
    let key = c.self.inside.table.shared.key in
    let seats = c.requires.count ∙ sym (ap (λ (l : LockState g.row.V.Denot). l.seats) c.self.view_is) in
    let e = ends g.V.Kept.history g.V.Kept.setting key.initial.value key.seats all.id all.me.0 c.args.seats.items _ _ c.take.result c.close_with-closed.ensures.values.2
    (ap (λ (m : Mine g.row.V.Denot). m.0) c.collect-all.ensures.view) seats c.take.ensures.value in
    ended_of g.V.Kept.history g.V.Kept.setting _ c.args.self c.args.seats.items c.unwrap-value.result c.self.view_is
    (ends_with g.V.Kept.history g.V.Kept.setting key.initial.value key.seats c.args.seats.items c.take.result c.unwrap-value.result e c.unwrap-value.ensures)

pub returns-clause-setting : goal.returns-clause-setting
returns-clause-setting g c = (ended g c).same

pub returns-clause-seats : goal.returns-clause-seats
returns-clause-seats g c = (ended g c).seen

pub returns-clause-every : goal.returns-clause-every
returns-clause-every g c = (ended g c).every

pub returns-clause-others : goal.returns-clause-others
returns-clause-others g c = (ended g c).others
